-- The public call's contract settles it, over what the `ensures` in the source says: it is an equation. Assumes nothing.
use mathlib.Core.Path.{refl}
use Rattle.theory.specs.Settled.{Settles}
use Rattle.theory.proofs.Unique.{settled_unique}
use Rattle.summing.proofs.summary.summary_of

pub summary_of_unique : Settles summary_of.Kinds.ps summary_of.Kinds.r summary_of.Reads.Post
summary_of_unique κs args x y = (settled_unique x.meets y.meets, refl)
