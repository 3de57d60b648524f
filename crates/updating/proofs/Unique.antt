-- The public call's contract settles it, over what the `ensures` in the source says. Assumes nothing.
use mathlib.Core.Path.{refl}
use Rattle.theory.specs.Settled.{Settles}
use Rattle.theory.proofs.Unique.{◌beside◌}
use Rattle.updating.proofs.Updated.{updates_unique}
use Rattle.updating.proofs.changes.update

pub update_unique : Settles update.Kinds.ps update.Kinds.r update.Reads.Post
update_unique κs args x y =
    let (answer, sets) = updates_unique _ _ _ _ x.meets y.meets in
    (answer, refl beside refl beside refl beside sets beside refl)
