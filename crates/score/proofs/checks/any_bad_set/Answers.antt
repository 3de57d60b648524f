-- `score::checks::any_bad_set` meets its contract: the fold says whether some set is bad.
use Rattle.std.proofs.Common.{rules}
use Rattle.std.proofs.lemmas.Iterator.{YieldsList-from_slice}
use Rattle.theory.proofs.Chains.{some_from_fold}
use Rattle.score.specs.Refusals.{bad_set}
use Rattle.score.proofs.checks.any_bad_set.Goals as goal

pub returns : goal.returns
returns c = some_from_fold bad_set _ _ c.fold.ensures.ran (YieldsList-from_slice c.args.sets.now cc) (λ a x b h k. search rules)
