-- `passing::empties::any_rest` meets its contract: the fold says whether some cell is no pitch.
use Rattle.std.proofs.Common.{rules}
use Rattle.std.proofs.lemmas.Iterator.{YieldsList-from_slice}
use Rattle.theory.proofs.Chains.{some_from_fold}
use Rattle.passing.proofs.Looking.{no_pitch}
use Rattle.passing.proofs.empties.any_rest.Goals as goal

pub returns : goal.returns
returns c = some_from_fold no_pitch _ _ c.fold.ensures.ran (YieldsList-from_slice c.args.cells.now cc) (λ a x b h k. search rules)
