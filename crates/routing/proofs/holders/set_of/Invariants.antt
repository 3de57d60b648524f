-- The invariant: the bits of the cells passed are added up, and there are no others.
use Rattle.std.proofs.Common.{◌≡◌, ℕ, ◌^◌, ◌<◌, Bool}
use Rattle.routing.proofs.CellBits.{Added}
use Rattle.routing.proofs.holders.set_of.Given as goal

abbrev pub invariant-loop-i : goal.invariant-loop-i
invariant-loop-i g l = record {
  low : l.set < 2 ^ l.i;
  added : (passes : ℕ → Bool) → ((cell : ℕ) (b : Bool) → cell < 256 → goal.F-post g l.test cell b → b ≡ passes cell) → Added passes l.column l.i l.set;
}
