-- The public call's contract settles it, over what the `ensures` in the source says: the answer and the buffer, by
-- `lists_unique`. Assumes nothing.
use mathlib.Core.Path.{refl}
use Rattle.theory.specs.Settled.{Settles}
use Rattle.theory.proofs.Unique.{◌beside◌}
use Rattle.listing.proofs.Listings.{lists_unique}
use Rattle.listing.proofs.output.list

pub list_unique : Settles list.Kinds.ps list.Kinds.r list.Reads.Post
list_unique κs args x y =
    let (answer, out) = lists_unique _ _ x.meets y.meets in
    (answer, refl beside out beside refl)
