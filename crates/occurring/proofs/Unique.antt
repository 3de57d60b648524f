-- The public call's contract settles it, over what the `ensures` in the source says. Assumes nothing.
use mathlib.Core.Path.{refl}
use Rattle.theory.specs.Settled.{Settles}
use Rattle.theory.proofs.Unique.{◌beside◌}
use Rattle.occurring.proofs.Asked.{occurs_settled}
use Rattle.occurring.proofs.question.occurs

pub occurs_unique : Settles occurs.Kinds.ps occurs.Kinds.r occurs.Reads.Post
occurs_unique κs args x y =
    let (answer, table) = occurs_settled _ _ _ _ _ _ _ x.meets y.meets in
    (answer, refl beside refl beside refl beside refl beside refl beside refl beside table beside refl)
