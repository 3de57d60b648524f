-- `routing::holders::octave_set` meets its contract: each cell is asked for the class of the moved note.
use Rattle.std.proofs.Common.{◌+◌, ◌%◌, ◌&&◌, leb, eqb, rules}
use Rattle.score.specs.Limits.{highest_pitch}
use Rattle.routing.proofs.CellBits.{octave_class}
use Rattle.routing.proofs.holders.octave_set.Goals as goal

pub returns : goal.returns
returns c =
    let a = c.args in
    octave_class a.code a.p a.column.now
    (c.set_of.ensures (λ cell. leb cell highest_pitch && eqb (cell % 12) ((a.p.0 + a.code) % 12)) (λ cell b l k. search rules))
