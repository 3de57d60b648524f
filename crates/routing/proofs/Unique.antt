-- The public call's contract settles it, over what the `ensures` in the source says. Assumes nothing.
use mathlib.Core.Path.{refl}
use Rattle.theory.specs.Settled.{Settles}
use Rattle.theory.proofs.Unique.{◌beside◌}
use Rattle.routing.proofs.RouteAnswers.{routes_unique}
use Rattle.routing.proofs.router.route

pub route_unique : Settles route.Kinds.ps route.Kinds.r route.Reads.Post
route_unique κs args x y =
    let (answer, after) = routes_unique _ _ _ _ _ _ x.meets y.meets in
    (answer, refl beside refl beside refl beside refl beside refl beside after beside refl)
