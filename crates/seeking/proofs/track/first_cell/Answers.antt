-- `seeking::track::first_cell` meets its contract: the position is that of the first cell that holds the note.
use mathlib.Core.Path.{◌∙◌}
use Rattle.std.proofs.Common.{rules}
use Rattle.std.proofs.lemmas.Iterator.{YieldsList-from_slice}
use Rattle.theory.proofs.Chains.{first_from_position}
use Rattle.seeking.specs.Track.{cell_holds}
use Rattle.seeking.proofs.track.first_cell.Goals as goal

pub returns : goal.returns
returns c =
    c.unwrap_or.ensures
    ∙ first_from_position (cell_holds c.args.way c.args.code c.args.p) _ _ _ c.position.ensures.ran (YieldsList-from_slice c.args.column.now cc)
    (λ x b h k. search rules)
