-- `score::checks::first_bad_cell` meets its contract: the position is that of the first bad cell.
use mathlib.Core.Path.{◌∙◌}
use Rattle.std.proofs.Common.{rules}
use Rattle.std.proofs.lemmas.Iterator.{YieldsList-from_slice}
use Rattle.theory.proofs.Chains.{first_from_position}
use Rattle.score.specs.Refusals.{bad_cell}
use Rattle.score.proofs.checks.first_bad_cell.Goals as goal

pub returns : goal.returns
returns c = c.unwrap_or.ensures ∙ first_from_position bad_cell _ _ _ c.position.ensures.ran (YieldsList-from_slice c.args.cells.now cc) (λ x b h k. search rules)
