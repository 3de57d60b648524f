-- The public call's contract settles it, over what the `ensures` in the source says: it is an equation, and nothing that is lent is
-- written. Assumes nothing.
use mathlib.Core.Path.{refl}
use Rattle.theory.specs.Settled.{Settles}
use Rattle.theory.proofs.Unique.{settled_unique}
use Rattle.explaining.proofs.explainer.explain

pub explain_unique : Settles explain.Kinds.ps explain.Kinds.r explain.Reads.Post
explain_unique κs args x y = (settled_unique x.meets y.meets, refl)
