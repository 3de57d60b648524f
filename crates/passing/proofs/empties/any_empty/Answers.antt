-- `passing::empties::any_empty` meets its contract: of one track a column is a cell.
use mathlib.Core.Path.{◌∙◌}
use Rattle.passing.proofs.Looking.{one_track}
use Rattle.passing.proofs.empties.any_empty.Goals as goal

pub returns-then-tracks-eq1 : goal.returns-then-tracks-eq1
returns-then-tracks-eq1 c = c.any_rest.ensures ∙ one_track c.args.cells.now c.if-tracks-eq1.true
