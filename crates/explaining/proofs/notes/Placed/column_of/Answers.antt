-- `explaining::notes::Placed::column_of` meets its contract: the cells from where the column begins.
use mathlib.Core.Path.{refl}
use Prim.Native.Nat.{◌*◌, ◌-◌}
use native.Mathlib.Omega.{arith}
use lib.ListN.{get_or}
use Rattle.score.proofs.Columns.{column_cells}
use Rattle.explaining.proofs.notes.Placed.column_of.Goals as goal

pub returns : goal.returns
returns c =
    let s = c.args.self.now in
    let number = get_or s.numbers.now c.args.i 0 in
    let low = s.columns_there.from_first c.args.i c.requires in
    let high = s.columns_there.to_last c.args.i c.requires in
    column_cells s.cells.now s.tracks (number - 1) ((number - 1) * s.tracks) refl (omega (arith, low, high))
