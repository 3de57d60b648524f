-- Each public call's contract settles it: one theorem a call, over what the `ensures` in the source says: the answer and the
-- buffer, by `tells_unique`. Assumes nothing.
use mathlib.Core.Path.{refl}
use Rattle.theory.specs.Settled.{Settles}
use Rattle.theory.proofs.Unique.{◌beside◌}
use Rattle.telling.proofs.Tellings.{tells_unique}
use Rattle.telling.proofs.calls.tell
use Rattle.telling.proofs.calls.refuse

pub tell_unique : Settles tell.Kinds.ps tell.Kinds.r tell.Reads.Post
tell_unique κs args x y =
    let (answer, out) = tells_unique x.meets y.meets in
    (answer, refl beside refl beside refl beside refl beside out beside refl)

pub refuse_unique : Settles refuse.Kinds.ps refuse.Kinds.r refuse.Reads.Post
refuse_unique κs args x y =
    let (answer, out) = tells_unique x.meets y.meets in
    (answer, refl beside out beside refl)
