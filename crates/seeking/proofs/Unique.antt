-- Each public call's contract settles it: one theorem a call, over what the `ensures` in the source says. Each contract is an
-- equation, and no call writes what it was lent. Assumes nothing.
use mathlib.Core.Path.{refl}
use Rattle.theory.specs.Settled.{Settles}
use Rattle.theory.proofs.Unique.{settled_unique}
use Rattle.seeking.proofs.columns.sought
use Rattle.seeking.proofs.track.cell_holds
use Rattle.seeking.proofs.track.lowest_track

pub sought_unique : Settles sought.Kinds.ps sought.Kinds.r sought.Reads.Post
sought_unique κs args x y = (settled_unique x.meets y.meets, refl)

pub cell_holds_unique : Settles cell_holds.Kinds.ps cell_holds.Kinds.r cell_holds.Reads.Post
cell_holds_unique κs args x y = (settled_unique x.meets y.meets, refl)

pub lowest_track_unique : Settles lowest_track.Kinds.ps lowest_track.Kinds.r lowest_track.Reads.Post
lowest_track_unique κs args x y = (settled_unique x.meets y.meets, refl)
