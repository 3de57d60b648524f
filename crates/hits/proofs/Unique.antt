-- Each public call's contract settles it: one theorem a call, over what the `ensures` in the source says. Both write by `Puts`,
-- which settles the place behind and both buffers. Assumes nothing.
use mathlib.Core.Path.{refl}
use Rattle.theory.specs.Settled.{Settles}
use Rattle.theory.proofs.Unique.{◌beside◌}
use Rattle.hits.proofs.Fitting.{puts_unique}
use Rattle.hits.proofs.writing.put_hits
use Rattle.hits.proofs.writing.keep

pub put_hits_unique : Settles put_hits.Kinds.ps put_hits.Kinds.r put_hits.Reads.Post
put_hits_unique κs args x y =
    let (place, columns, shifts) = puts_unique _ _ _ _ _ _ x.meets y.meets in
    (place, columns beside shifts beside refl)

pub keep_unique : Settles keep.Kinds.ps keep.Kinds.r keep.Reads.Post
keep_unique κs args x y =
    let (place, columns, shifts) = puts_unique _ _ _ _ _ _ x.meets y.meets in
    (place, columns beside shifts beside refl)
