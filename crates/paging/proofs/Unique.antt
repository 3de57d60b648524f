-- The public call's contract settles it, over what the `ensures` in the source says: the contract is an equation, and the
-- buffers are read only. Assumes nothing.
use mathlib.Core.Path.{refl}
use Rattle.theory.specs.Settled.{Settles}
use Rattle.theory.proofs.Unique.{settled_unique}
use Rattle.paging.proofs.page.turned

pub turned_unique : Settles turned.Kinds.ps turned.Kinds.r turned.Reads.Post
turned_unique κs args x y = (settled_unique x.meets y.meets, refl)
