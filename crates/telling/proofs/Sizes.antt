-- The text of a shift, by its sign and its size. Assumes nothing.
use mathlib.Core.Path.{◌≡◌, refl, sym, ap, ◌∙◌}
use mathlib.Core.Bool.{true, false, true≢false}
use mathlib.Core.List.{◌∷◌}
use Prim.Native.Nat.{ℕ, ◌<◌}
use native.Mathlib.Omega.{arith}
use lib.IntN.{ℤ, pos, negsuc, nat_abs}
use lib.Signed.{lt_z}
use borrow.Author.Tests.{ltb-true}
use mir.Syntax.{w16}
use mir.Val.{SFits, to_z, of_z}
use mir.Facts.{to_z-of_z}
use Rattle.telling.specs.Text.{decimal, signed, field}

pub signed_below : (z : ℤ) → lt_z z (pos 0) ≡ true → signed z ≡ 45 ∷ decimal (nat_abs z)
signed_below (pos n) e = let l : n < 0 = ltb-true n 0 e in absurd (omega arith)
signed_below (negsuc n) e = refl

pub signed_above : (z : ℤ) → lt_z z (pos 0) ≡ false → signed z ≡ decimal (nat_abs z)
signed_above (pos n) e = refl
signed_above (negsuc n) e = absurd (true≢false e)

-- by the size that was computed, of the shift that was read
abbrev pub read : ℤ → ℤ
read z = to_z w16 (of_z w16 z)

module _ (z : ℤ) (f : SFits w16 z) (size : ℕ) (s : size ≡ nat_abs (read z)) where
  size_is : size ≡ nat_abs z
  size_is = s ∙ ap nat_abs (to_z-of_z f)

  pub shift_below : lt_z (read z) (pos 0) ≡ true → field (signed z) ≡ 9 ∷ 45 ∷ decimal size
  shift_below e = rw (signed_below z (sym (ap (λ (y : ℤ). lt_z y (pos 0)) (to_z-of_z f)) ∙ e), size_is)

  pub shift_above : lt_z (read z) (pos 0) ≡ false → field (signed z) ≡ field (decimal size)
  shift_above e = rw (signed_above z (sym (ap (λ (y : ℤ). lt_z y (pos 0)) (to_z-of_z f)) ∙ e), size_is)
