-- Each public call's contract settles it: one theorem a call, over what the `ensures` in the source says. Each contract is an
-- equation, and no call writes what it was lent. Assumes nothing.
use mathlib.Core.Path.{refl}
use Rattle.theory.specs.Settled.{Settles}
use Rattle.theory.proofs.Unique.{settled_unique}
use Rattle.holding.proofs.held.holds_at
use Rattle.holding.proofs.next.next_code

pub holds_at_unique : Settles holds_at.Kinds.ps holds_at.Kinds.r holds_at.Reads.Post
holds_at_unique κs args x y = (settled_unique x.meets y.meets, refl)

pub next_code_unique : Settles next_code.Kinds.ps next_code.Kinds.r next_code.Reads.Post
next_code_unique κs args x y = (settled_unique x.meets y.meets, refl)
