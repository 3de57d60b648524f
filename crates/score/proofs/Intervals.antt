-- The interval of two pitches is what the published definition says, in integers, and the only such. The idea: y - x - d
-- is divisible by 12 where y and x + d leave the same remainder. Assumes nothing.
use mathlib.Core.Path.{◌≡◌, sym, subst}
use Prim.Native.Nat.{◌+◌, ◌%◌, ◌≤◌, ◌<◌}
use native.Mathlib.Omega.{arith}
use Rattle.score.specs.Limits.{highest_pitch}
use Rattle.score.specs.declared.quantities.Pitch.{Pitch}
use Rattle.score.specs.declared.quantities.Interval.{Interval}
use Rattle.score.specs.Sets.{Twelves, IsInterval, interval}
use Rattle.score.proofs.Twelves.{pos_sub_sub, twelves, twelves_mod}

pub interval_lt : (x y : Pitch) → (interval x y).0 < 12
interval_lt x y = omega arith

-- d is the interval where it is below 12 and y and x + d leave the same remainder, and only there
pub interval_from : (x y : Pitch) (d : Interval) → d.0 < 12 → y.0 % 12 ≡ (x.0 + d.0) % 12 → IsInterval x y d
interval_from x y d h e =
    record { small = h; whole = subst Twelves (sym (pos_sub_sub y.0 x.0 d.0)) (twelves y.0 (x.0 + d.0) e) }

pub interval_mod : {x y : Pitch} {d : Interval} → IsInterval x y d → y.0 % 12 ≡ (x.0 + d.0) % 12
interval_mod {x} {y} {d} i = twelves_mod y.0 (x.0 + d.0) (subst Twelves (pos_sub_sub y.0 x.0 d.0) i.whole)

-- the interval that is computed is one, and there is no other
pub interval_is : (x y : Pitch) → x.0 ≤ highest_pitch → IsInterval x y (interval x y)
interval_is x y h = interval_from x y (interval x y) (interval_lt x y) (omega arith)

pub interval_only : {x y : Pitch} {d : Interval} → x.0 ≤ highest_pitch → IsInterval x y d → d.0 ≡ (interval x y).0
interval_only {x} {y} {d} h i = omega (arith, i.small, interval_mod i)

pub interval_unique : {x y : Pitch} {d e : Interval} → IsInterval x y d → IsInterval x y e → d.0 ≡ e.0
interval_unique i k = omega (arith, i.small, k.small, interval_mod i, interval_mod k)
