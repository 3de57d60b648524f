-- Each public call's contract settles it: one theorem a call, over what the `ensures` in the source says. Whether a word stands
-- at a place is told by an equation, and a cell by `Numbered`. Assumes nothing.
use mathlib.Core.Path.{refl}
use Rattle.theory.specs.Settled.{Settles}
use Rattle.theory.proofs.Unique.{settled_unique}
use Rattle.words.proofs.Places.{numbered_unique}
use Rattle.words.proofs.bytes.stands
use Rattle.words.proofs.numbers.cell

pub stands_unique : Settles stands.Kinds.ps stands.Kinds.r stands.Reads.Post
stands_unique κs args x y = (settled_unique x.meets y.meets, refl)

pub cell_unique : Settles cell.Kinds.ps cell.Kinds.r cell.Reads.Post
cell_unique κs args x y = (numbered_unique x.answer y.answer x.meets y.meets, refl)
