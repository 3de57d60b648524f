-- A number with a sign and its code, which is its bias more, as 127 more: at any bias, and read from any width.
-- Assumes nothing.
use mathlib.Core.Path.{◌≡◌, refl, sym, ap, ◌∙◌, subst}
use mathlib.Core.Bool.{Bool, true, false, cond}
use Prim.Native.Nat.{ℕ, zero, suc, ◌+◌, ◌-◌, ◌^◌, ◌≤◌, ◌<◌}
use native.Mathlib.Omega.{arith}
use lib.Dec.{T, ltb, leb→le, le→leb, lt→ltb}
use lib.IntN.{ℤ, pos, negsuc, sub_ℕ, ◌+ℤ◌, ◌-ℤ◌, +ℤ-neg_ℤ_cancel, +ℤ_one}
use lib.Pow.{pow_pos}
use lib.Signed.{mag, non_neg, lt_z, ◌≤ℤ◌, ◌<ℤ◌, le_z_yes, lt_z_yes}
use borrow.Author.Tests.{ltb-true, ltb-false, le-ltb}
use mir.Syntax.{Width, w16, w32}
use mir.Val.{SFits, to_z, of_z, hbits}
use mir.Facts.{to_z-of_z, to_z_pos}

-- ---- a difference of two naturals

mag_cond : (t : Bool) (p q H : ℕ) → (t ≡ true → p < H) → (t ≡ false → q < H) → mag (cond t (negsuc p) (pos q)) < H
mag_cond true p q H f g = f refl
mag_cond false p q H f g = g refl

-- its size is below a bound that both keep
pub mag_sub : (a b H : ℕ) → a < H → b ≤ H → mag (sub_ℕ a b) < H
mag_sub a b H h k =
    mag_cond (ltb a b) (b - suc a) (a - b) H
    (λ e. let l : a < b = ltb-true a b e in omega arith) (λ e. omega arith)

pub sub_pos : (a b : ℕ) → b ≤ a → sub_ℕ a b ≡ pos (a - b)
sub_pos a b h = ap (λ (t : Bool). cond t (negsuc (b - suc a)) (pos (a - b))) (le-ltb a b h)

-- it rises with the first of the two
pub sub_rises : (a c b : ℕ) → a < c → sub_ℕ a b <ℤ sub_ℕ c b
sub_rises a c b h = step (ltb a b) (ltb c b) refl refl
  where
    step : (t u : Bool) → ltb a b ≡ t → ltb c b ≡ u → cond t (negsuc (b - suc a)) (pos (a - b)) <ℤ cond u (negsuc (b - suc c)) (pos (c - b))
    step true true e f = let k : c < b = ltb-true c b f in lt_z_yes (lt→ltb (b - suc c) (b - suc a) (omega arith))
    step true false e f = lt_z_yes tt
    step false true e f = absurd (omega (arith, ltb-false a b e, ltb-true c b f))
    step false false e f = let k : b ≤ a = ltb-false a b e in lt_z_yes (lt→ltb (a - b) (c - b) (omega arith))

-- it is from -(b + 1) on, and at most h
pub sub_above : (a b : ℕ) → negsuc b ≤ℤ sub_ℕ a (suc b)
sub_above a b = step (ltb a (suc b))
  where
    step : (t : Bool) → negsuc b ≤ℤ cond t (negsuc (suc b - suc a)) (pos (a - suc b))
    step true = le_z_yes (le→leb (suc b - suc a) b (omega arith))
    step false = le_z_yes tt

pub sub_below : (a b h : ℕ) → a ≤ h + b → sub_ℕ a b ≤ℤ pos h
sub_below a b h k = step (ltb a b)
  where
    step : (t : Bool) → cond t (negsuc (b - suc a)) (pos (a - b)) ≤ℤ pos h
    step true = le_z_yes tt
    step false = le_z_yes (le→leb (a - b) h (omega arith))

-- ---- the code of a number

-- n is the code of z at the bias b
pub record Coded (b : ℕ) (z : ℤ) (n : ℕ) : Type 0 where
  pub up : z +ℤ pos b ≡ pos n
  pub down : z ≡ pos n -ℤ pos b

coded : (b : ℕ) (z : ℤ) (n : ℕ) → z +ℤ pos b ≡ pos n → Coded b z n
coded b z n e = record { up = e; down = sym (+ℤ-neg_ℤ_cancel z (pos b)) ∙ ap (λ (y : ℤ). y -ℤ pos b) e }

-- from -(b + 1) to h there is a code at the bias b + 1, of at most h + b + 1
pub code : (b h : ℕ) (z : ℤ) → negsuc b ≤ℤ z → z ≤ℤ pos h → (n : ℕ) × (n ≤ h + suc b) × Coded (suc b) z n
code b h (pos a) lo hi = (a + suc b, (let l : a ≤ h = leb→le a h hi.le in omega arith), coded (suc b) (pos a) (a + suc b) refl)
code b h (negsuc a) lo hi =
    let l : a ≤ b = leb→le a b lo.le in
    (suc b - suc a, omega arith, coded (suc b) (negsuc a) (suc b - suc a) (sub_pos (suc b) (suc a) (omega arith)))

-- from -(b + 1) on it is not negative at the bias b + 1
pub raised : (b : ℕ) (z : ℤ) → negsuc b ≤ℤ z → T (non_neg (z +ℤ pos (suc b)))
raised b (pos a) lo = tt
raised b (negsuc a) lo = let l : a ≤ b = leb→le a b lo.le in rw (sub_pos (suc b) (suc a) (omega arith)) tt

-- ---- what the machine computes: `x + k` reads and writes the bits

pub add_read : (w : Width) (z k : ℤ) → SFits w z → SFits w (z +ℤ k) → to_z w (of_z w (to_z w (of_z w z) +ℤ k)) ≡ z +ℤ k
add_read w z k f g = ap (λ (y : ℤ). to_z w (of_z w (y +ℤ k))) (to_z-of_z f) ∙ to_z-of_z g

-- `(n as i16) - (b + 1)`
pub sub_fits : (w : Width) (n b : ℕ) → n < 2 ^ hbits w → b < 2 ^ hbits w → SFits w (to_z w n -ℤ pos (suc b))
sub_fits w n b h k =
    subst (λ (y : ℤ). SFits w (y -ℤ pos (suc b))) (sym (to_z_pos w h)) (record { sfits = mag_sub n (suc b) (2 ^ hbits w) h k })

-- ---- a number raised by one

-- below the highest number of a width it stays within the width
pub raise_fits : (w : Width) (z : ℤ) → SFits w z → lt_z z (pos (2 ^ hbits w - 1)) ≡ true → SFits w (z +ℤ pos 1)
raise_fits w (pos a) f h = record { sfits = let l : a < 2 ^ hbits w - 1 = ltb-true a (2 ^ hbits w - 1) h in omega arith }
raise_fits w (negsuc zero) f h = record { sfits = pow_pos (hbits w) }
raise_fits w (negsuc (suc a)) f h = subst (SFits w) (sym (+ℤ_one (negsuc (suc a)))) (record { sfits = let l : suc a < 2 ^ hbits w = f.sfits in omega arith })

-- ---- a number of 16 bits, read in 32

pub wide_fits : (z : ℤ) → SFits w16 z → SFits w32 z
wide_fits z f = record { sfits = omega (arith, f.sfits) }

pub read_wide_fits : (z : ℤ) → SFits w16 z → SFits w32 (to_z w16 (of_z w16 z))
read_wide_fits z f = subst (SFits w32) (sym (to_z-of_z f)) (wide_fits z f)
