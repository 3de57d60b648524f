-- The public call's contract settles it, over what the `ensures` in the source says: the answer and both buffers, by
-- `takes_unique`. Assumes nothing.
use mathlib.Core.Path.{refl}
use Rattle.theory.specs.Settled.{Settles}
use Rattle.theory.proofs.Unique.{◌beside◌}
use Rattle.reading.proofs.Takings.{takes_unique}
use Rattle.reading.proofs.request.read

pub read_unique : Settles read.Kinds.ps read.Kinds.r read.Reads.Post
read_unique κs args x y =
    let (answer, theme, cells) = takes_unique x.meets y.meets in
    (answer, refl beside theme beside cells beside refl)
