-- Each public call's contract settles it: one theorem a call, over what the `ensures` in the source says. A preparation's
-- answer and its sets are settled by `prepares_unique`, the class set of a column and the set of two by an equation.
-- Assumes nothing.
use mathlib.Core.Path.{refl}
use Rattle.theory.specs.Settled.{Settles}
use Rattle.theory.proofs.Unique.{settled_unique, ◌beside◌}
use Rattle.preparing.proofs.Preparing.{prepares_unique}
use Rattle.preparing.proofs.sets.prepare
use Rattle.preparing.proofs.sets.set_between
use Rattle.preparing.proofs.classes.classes_of

pub prepare_unique : Settles prepare.Kinds.ps prepare.Kinds.r prepare.Reads.Post
prepare_unique κs args x y =
    let (answer, sets) = prepares_unique _ _ _ x.meets y.meets in
    (answer, refl beside refl beside sets beside refl)

pub classes_of_unique : Settles classes_of.Kinds.ps classes_of.Kinds.r classes_of.Reads.Post
classes_of_unique κs args x y = (settled_unique x.meets y.meets, refl)

pub set_between_unique : Settles set_between.Kinds.ps set_between.Kinds.r set_between.Reads.Post
set_between_unique κs args x y = (settled_unique x.meets y.meets, refl)
