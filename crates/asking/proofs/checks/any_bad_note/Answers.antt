-- `asking::checks::any_bad_note` meets its contract: the fold says whether some note is bad.
use Rattle.std.proofs.Common.{rules}
use Rattle.std.proofs.lemmas.Iterator.{YieldsList-from_slice}
use Rattle.theory.proofs.Chains.{some_from_fold}
use Rattle.asking.specs.Refusals.{bad_note}
use Rattle.asking.proofs.checks.any_bad_note.Goals as goal

pub returns : goal.returns
returns c = some_from_fold bad_note _ _ c.fold.ensures.ran (YieldsList-from_slice c.args.theme.now cc) (λ a x b h k. search rules)
