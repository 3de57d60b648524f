-- A test passes or fails: what follows either way. Assumes nothing.
use mathlib.Core.Path.{◌≡◌, refl}
use mathlib.Core.Bool.{Bool, true, false, ◌&&◌}

pub either : (t : Bool) {P : Type 0} → (t ≡ true → P) → (t ≡ false → P) → P
either true f g = f refl
either false f g = g refl

-- both of two tests pass
pub both_left : (a b : Bool) → (a && b) ≡ true → a ≡ true
both_left true b e = refl
both_left false b e = e

pub both_right : (a b : Bool) → (a && b) ≡ true → b ≡ true
both_right true b e = e
both_right false true e = refl
both_right false false e = e
