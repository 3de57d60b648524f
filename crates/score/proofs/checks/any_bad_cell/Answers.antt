-- `score::checks::any_bad_cell` meets its contract: the fold says whether some cell is bad.
use Rattle.std.proofs.Common.{rules}
use Rattle.std.proofs.lemmas.Iterator.{YieldsList-from_slice}
use Rattle.theory.proofs.Chains.{some_from_fold}
use Rattle.score.specs.Refusals.{bad_cell}
use Rattle.score.proofs.checks.any_bad_cell.Goals as goal

pub returns : goal.returns
returns c = some_from_fold bad_cell _ _ c.fold.ensures.ran (YieldsList-from_slice c.args.cells.now cc) (λ a x b h k. search rules)
