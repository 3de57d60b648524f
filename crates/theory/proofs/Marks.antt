-- What a word marks: how many numbers, which of them pass a test that a second word says, and the lowest one with those
-- after it. Assumes nothing.
use mathlib.Core.Path.{◌≡◌, refl, sym, ap, ◌∙◌}
use mathlib.Core.Bool.{Bool, true, false, cond}
use mathlib.Core.List.{List, [], ◌∷◌, ◌++◌, append-nil}
use Prim.Native.Nat.{ℕ, zero, suc, ◌+◌, ◌-◌, ◌*◌, ◌/◌, ◌%◌, ◌^◌, ◌≤◌, ◌<◌, min}
use native.Mathlib.Nat.{mod-lt, pow-suc, zero-lt-suc, div-one, div-eq_of_lt}
use native.Mathlib.Numerals.{one-add}
use native.Mathlib.Omega.{arith}
use lib.Dec.{eqb}
use lib.ListN.{length}
use lib.Bits.{bit_and, and_shr}
use lib.Pow.{shr-shr}
use lib.Count.{ones, ones_step, ones-le, count_trailing_zeros}
use borrow.Author.Tests.{eqb-true, eqb-false, ne_eqb}
use Rattle.theory.specs.Lists.{count}
use Rattle.theory.specs.Pages.{hits}
use Rattle.theory.specs.Bits.{bit}
use Rattle.theory.specs.Marks.{marks}
use Rattle.theory.proofs.Bits.{bit_zero, bit_suc, bit_and_lem}

-- what the bits say of each number is what the word marks
pub marks_is : (f : ℕ → Bool) (w z x : ℕ) → ((i : ℕ) → i < w → eqb (bit x i) 1 ≡ f (z + i)) → marks w z x ≡ hits f (count z w)
unfolding marks
marks_is f zero z x h = refl
marks_is f (suc w) z x h = rw (here, marks_is f w (suc z) (x / 2) later)
  where
    here : eqb (x % 2) 1 ≡ f z
    here = ap (λ (b : ℕ). eqb b 1) (sym (bit_zero x)) ∙ h 0 (omega arith) ∙ ap f (omega arith)

    later : (i : ℕ) → i < w → eqb (bit (x / 2) i) 1 ≡ f (suc z + i)
    later i k = ap (λ (b : ℕ). eqb b 1) (sym (bit_suc x i)) ∙ h (suc i) (omega arith) ∙ ap f (omega arith)

-- the same bits mark the same numbers
pub marks_same : (w z x y : ℕ) → ((i : ℕ) → i < w → bit x i ≡ bit y i) → marks w z x ≡ marks w z y
marks_same w z x y h = marks_is by w z x (λ i k. ap (λ (b : ℕ). eqb b 1) (h i k) ∙ own i) ∙ sym (marks_is by w z y (λ i k. own i))
  where
    by : ℕ → Bool
    by c = eqb (bit y (c - z)) 1

    own : (i : ℕ) → eqb (bit y i) 1 ≡ eqb (bit y (z + i - z)) 1
    own i = ap (λ (n : ℕ). eqb (bit y n) 1) (omega arith)

pub marks_zero : (w z : ℕ) → marks w z 0 ≡ []
unfolding marks
marks_zero zero z = refl
marks_zero (suc w) z = marks_zero w (suc z)

-- as many as the word has ones
pub marks_ones : (w z x : ℕ) → x < 2 ^ w → length (marks w z x) ≡ ones x
unfolding marks
marks_ones zero z x h = omega (arith, ones-le 0 x h)
marks_ones (suc w) z x h =
    let p : 2 ^ suc w ≡ 2 ^ w * 2 = pow-suc 2 w in
    step (eqb (x % 2) 1) refl (marks_ones w (suc z) (x / 2) (omega (arith, p)))
  where
    step : (b : Bool) → eqb (x % 2) 1 ≡ b → length (marks w (suc z) (x / 2)) ≡ ones (x / 2)
        → length (cond b (z ∷ marks w (suc z) (x / 2)) (marks w (suc z) (x / 2))) ≡ ones x
    step true e ih = omega (arith, ih, ones_step x, eqb-true (x % 2) 1 e)
    step false e ih =
        let k : x % 2 ≡ 0 = small (x % 2) (mod-lt x (zero-lt-suc 1)) (eqb-false (x % 2) 1 e) in
        omega (arith, ih, ones_step x, k)
      where
        small : (d : ℕ) → d < 2 → (d ≡ 1 → ⊥) → d ≡ 0
        small zero q n = refl
        small (suc zero) q n = absurd (n refl)
        small (suc (suc d)) q n = absurd (omega arith)

-- those that pass a test which a second word says: both words have the bit
pub marks_both : (test : ℕ → Bool) (w z x y : ℕ) → ((i : ℕ) → i < w → bit x i ≡ 1 → eqb (bit y i) 1 ≡ test (z + i))
    → hits test (marks w z x) ≡ marks w z (bit_and x y)
unfolding marks
marks_both test zero z x y h = refl
marks_both test (suc w) z x y h = step (eqb (x % 2) 1) refl (marks_both test w (suc z) (x / 2) (y / 2) later)
  where
    later : (i : ℕ) → i < w → bit (x / 2) i ≡ 1 → eqb (bit (y / 2) i) 1 ≡ test (suc z + i)
    later i k e = ap (λ (b : ℕ). eqb b 1) (sym (bit_suc y i)) ∙ h (suc i) (omega arith) (bit_suc x i ∙ e) ∙ ap test (omega arith)

    half : bit_and x y / 2 ≡ bit_and (x / 2) (y / 2)
    half = and_shr x y 1

    low : bit_and x y % 2 ≡ min (x % 2) (y % 2)
    low = sym (bit_zero (bit_and x y)) ∙ bit_and_lem x y 0 ∙ rw (bit_zero x, bit_zero y)

    step : (b : Bool) → eqb (x % 2) 1 ≡ b → hits test (marks w (suc z) (x / 2)) ≡ marks w (suc z) (bit_and (x / 2) (y / 2))
        → hits test (cond b (z ∷ marks w (suc z) (x / 2)) (marks w (suc z) (x / 2)))
        ≡ cond (eqb (bit_and x y % 2) 1) (z ∷ marks w (suc z) (bit_and x y / 2)) (marks w (suc z) (bit_and x y / 2))
    step true e ih =
        let one : x % 2 ≡ 1 = eqb-true (x % 2) 1 e in
        let same : bit_and x y % 2 ≡ y % 2 = low ∙ omega (arith, one, mod-lt y (zero-lt-suc 1)) in
        let says : eqb (y % 2) 1 ≡ test z = ap (λ (b : ℕ). eqb b 1) (sym (bit_zero y)) ∙ h 0 (omega arith) (bit_zero x ∙ one) ∙ ap test (omega arith) in
        rw (same, says, half, ← ih)
    step false e ih =
        let none : eqb (bit_and x y % 2) 1 ≡ false = ne_eqb (bit_and x y % 2) 1 (λ (one : bit_and x y % 2 ≡ 1). eqb-false (x % 2) 1 e (omega (arith, low, one, mod-lt x (zero-lt-suc 1), mod-lt y (zero-lt-suc 1)))) in
        rw (none, half) ih

-- the lowest, and those after it: what is left marks them
pub record Lowest (w z x : ℕ) : Type 0 where
  pub within : count_trailing_zeros w x < w
  pub there : 2 ^ count_trailing_zeros w x ≤ x
  pub splits : marks w z x ≡ (z + count_trailing_zeros w x) ∷ marks w z (x - 2 ^ count_trailing_zeros w x)

pub marks_lowest : (w z x : ℕ) → 0 < x → x < 2 ^ w → Lowest w z x
unfolding marks count_trailing_zeros
marks_lowest zero z x p h = absurd (omega arith)
marks_lowest (suc w) z x p h = step (x % 2) refl (λ q. marks_lowest w (suc z) (x / 2) q (omega (arith, pow-suc 2 w)))
  where
    step : (d : ℕ) → x % 2 ≡ d → (0 < x / 2 → Lowest w (suc z) (x / 2)) → Lowest (suc w) z x
    step zero e ih =
        let r = ih (omega (arith, e)) in
        let t : count_trailing_zeros (suc w) x ≡ suc (count_trailing_zeros w (x / 2)) = rw e in
        let s : 2 ^ suc (count_trailing_zeros w (x / 2)) ≡ 2 ^ count_trailing_zeros w (x / 2) * 2 = pow-suc 2 (count_trailing_zeros w (x / 2)) in
        let m : (x - 2 ^ suc (count_trailing_zeros w (x / 2))) % 2 ≡ 0 = omega (arith, s, e, r.there) in
        let n : (x - 2 ^ suc (count_trailing_zeros w (x / 2))) / 2 ≡ x / 2 - 2 ^ count_trailing_zeros w (x / 2) = omega (arith, s, e, r.there) in
        let a : z + suc (count_trailing_zeros w (x / 2)) ≡ suc z + count_trailing_zeros w (x / 2) = omega arith in
        record {
          within = omega (arith, t, r.within);
          there = rw t (omega (arith, s, e, r.there));
          splits = rw (t, e, m, n, a) r.splits;
        }
    step (suc zero) e ih =
        let t : count_trailing_zeros (suc w) x ≡ 0 = rw e in
        let m : (x - 1) % 2 ≡ 0 = omega (arith, e) in
        let n : (x - 1) / 2 ≡ x / 2 = omega (arith, e) in
        let a : z + 0 ≡ z = omega arith in
        record { within = omega (arith, t); there = rw t p; splits = rw (t, e, m, n, a) }
    step (suc (suc d)) e ih = absurd (omega (arith, e, mod-lt x (zero-lt-suc 1)))

-- the lower bits, and then the upper ones
pub marks_append : (v w z x : ℕ) → marks (v + w) z x ≡ marks v z x ++ marks w (z + v) (x / 2 ^ v)
unfolding marks
marks_append zero w z x =
    let e : 0 + w ≡ w = omega arith in
    let f : z + 0 ≡ z = omega arith in
    rw (e, f, div-one)
marks_append (suc v) w z x =
    let e : suc v + w ≡ suc (v + w) = omega arith in
    let f : z + suc v ≡ suc z + v = omega arith in
    let g : x / 2 ^ suc v ≡ x / 2 / 2 ^ v = ap (λ (n : ℕ). x / 2 ^ n) (sym (one-add v)) ∙ sym (shr-shr x 1 v) in
    rw (e, f, g) (step (eqb (x % 2) 1) (marks_append v w (suc z) (x / 2)))
  where
    step : (b : Bool) → marks (v + w) (suc z) (x / 2) ≡ marks v (suc z) (x / 2) ++ marks w (suc z + v) (x / 2 / 2 ^ v)
        → cond b (z ∷ marks (v + w) (suc z) (x / 2)) (marks (v + w) (suc z) (x / 2))
        ≡ cond b (z ∷ marks v (suc z) (x / 2)) (marks v (suc z) (x / 2)) ++ marks w (suc z + v) (x / 2 / 2 ^ v)
    step true ih = ap (λ (l : List ℕ). z ∷ l) ih
    step false ih = ih

-- a word below 2 ^ v marks with its v lowest bits only
pub marks_few : (v w z x : ℕ) → x < 2 ^ v → marks (v + w) z x ≡ marks v z x
marks_few v w z x h = marks_append v w z x ∙ rw (div-eq_of_lt h, marks_zero w (z + v), append-nil)
