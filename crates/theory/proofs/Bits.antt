-- Laws of a bit: of or, and, complement, remainder, shifts and twice; of all ones and of a power of two; and that
-- numbers of w bits are equal where their bits are. Last, the number with given bits. Assumes nothing.
use mathlib.Core.Path.{◌≡◌, refl, sym, ap, ap₂, ◌∙◌, subst}
use Prim.Native.Nat.{ℕ, zero, suc, ◌+◌, ◌-◌, ◌*◌, ◌/◌, ◌%◌, ◌^◌, ◌≤◌, ◌<◌, zero-le, suc-le-suc, min, max}
use native.Mathlib.Nat.{mod-lt, mul-mod_left, pow-suc, zero-lt-suc, div-eq_of_lt, lt_of_lt_of_le, div-one, not-suc-le-zero, le_of_suc-le-suc}
use native.Mathlib.Numerals.{one-add}
use native.Mathlib.Omega.{arith}
use lib.Bits.{bit_or, bit_and, or_shr, and_shr, or_mod, and_mod}
use lib.Pow.{pow_mono, field, shl-shr, shr-shr, mod-mod-pow, ones_split, ones_lt, high, low}
use lib.Arith.{lt-one}
use Rattle.theory.specs.Bits.{bit, number}

pub bit_lt : (x q : ℕ) → bit x q < 2
unfolding bit
bit_lt x q = mod-lt (x / 2 ^ q) (zero-lt-suc 1)

digit_or : (x y : ℕ) → x < 2 → y < 2 → bit_or x y ≡ max x y
digit_or zero y h k = omega arith
digit_or (suc zero) zero h k = refl
digit_or (suc zero) (suc zero) h k = refl
digit_or (suc zero) (suc (suc y)) h k = absurd (omega arith)
digit_or (suc (suc x)) y h k = absurd (omega arith)

digit_and : (x y : ℕ) → x < 2 → y < 2 → bit_and x y ≡ min x y
digit_and zero y h k = omega arith
digit_and (suc zero) zero h k = refl
digit_and (suc zero) (suc zero) h k = refl
digit_and (suc zero) (suc (suc y)) h k = absurd (omega arith)
digit_and (suc (suc x)) y h k = absurd (omega arith)

pub bit_or_lem : (a b q : ℕ) → bit (bit_or a b) q ≡ max (bit a q) (bit b q)
unfolding bit
bit_or_lem a b q =
    ap (λ (x : ℕ). x % 2) (or_shr a b q) ∙ or_mod (a / 2 ^ q) (b / 2 ^ q) 1
    ∙ digit_or _ _ (bit_lt a q) (bit_lt b q)

pub bit_and_lem : (a b q : ℕ) → bit (bit_and a b) q ≡ min (bit a q) (bit b q)
unfolding bit
bit_and_lem a b q =
    ap (λ (x : ℕ). x % 2) (and_shr a b q) ∙ and_mod (a / 2 ^ q) (b / 2 ^ q) 1
    ∙ digit_and _ _ (bit_lt a q) (bit_lt b q)

-- ---- by the lowest bit, and the others

pub bit_zero : (x : ℕ) → bit x 0 ≡ x % 2
unfolding bit
bit_zero x = ap (λ (n : ℕ). n % 2) (div-one x)

pub bit_suc : (x q : ℕ) → bit x (suc q) ≡ bit (x / 2) q
unfolding bit
bit_suc x q = ap (λ (n : ℕ). x / 2 ^ n % 2) (sym (one-add q)) ∙ ap (λ (n : ℕ). n % 2) (sym (shr-shr x 1 q))

-- the lowest bit of a number that is shifted down
pub bit_shr : (x d q : ℕ) → bit (x / 2 ^ d) q ≡ bit x (d + q)
unfolding bit
bit_shr x d q = ap (λ (n : ℕ). n % 2) (shr-shr x d q)

-- and of one that is shifted up: d bits come in below, all 0
pub bit_shl : (x d q : ℕ) → bit (x * 2 ^ d) (d + q) ≡ bit x q
bit_shl x d q = sym (bit_shr (x * 2 ^ d) d q) ∙ ap (λ (n : ℕ). bit n q) (shl-shr x d)

-- past the width there is none
pub bit_high : (x q w : ℕ) → x < 2 ^ w → w ≤ q → bit x q ≡ 0
unfolding bit
bit_high x q w h k = ap (λ (n : ℕ). n % 2) (div-eq_of_lt (lt_of_lt_of_le h (pow_mono k)))

bit_mod_at : (x q j : ℕ) → bit (x % 2 ^ (j + 1 + q)) q ≡ bit x q
unfolding bit
bit_mod_at x q j = ap (λ (n : ℕ). n % 2) (field x (j + 1) q) ∙ mod-mod-pow (x / 2 ^ q) j 1

above : (q w : ℕ) → q < w → w - suc q + 1 + q ≡ w
above q w h = omega arith

pub bit_mod : (x q w : ℕ) → q < w → bit (x % 2 ^ w) q ≡ bit x q
bit_mod x q w h = subst (λ (n : ℕ). bit (x % 2 ^ n) q ≡ bit x q) (above q w h) (bit_mod_at x q (w - suc q))

pub bit_shl_low : (x d q : ℕ) → q < d → bit (x * 2 ^ d) q ≡ 0
bit_shl_low x d q h = sym (bit_mod (x * 2 ^ d) q d h) ∙ ap (λ (n : ℕ). bit n q) (mul-mod_left x (2 ^ d)) ∙ bit_high 0 q 0 (zero-lt-suc 0) zero-le

bit_ones_at : (q j : ℕ) → bit (2 ^ (j + 1 + q) - 1) q ≡ 1
unfolding bit
bit_ones_at q j =
    ap (λ (n : ℕ). n / 2 ^ q % 2) (ones_split (j + 1) q)
    ∙ ap (λ (n : ℕ). n % 2) (high (2 ^ (j + 1) - 1) q (ones_lt q) ∙ ones_split j 1)
    ∙ low (2 ^ j - 1) 1 (ones_lt 1)

pub bit_ones : (q w : ℕ) → q < w → bit (2 ^ w - 1) q ≡ 1
bit_ones q w h = subst (λ (n : ℕ). bit (2 ^ n - 1) q ≡ 1) (above q w h) (bit_ones_at q (w - suc q))

-- ---- twice a number

half_twice : (x : ℕ) → (x + x) / 2 ≡ x
half_twice x = omega arith

twice_even : (x : ℕ) → (x + x) % 2 ≡ 0
twice_even x = omega arith

pub bit_twice_suc : (x q : ℕ) → bit (x + x) (suc q) ≡ bit x q
bit_twice_suc x q = bit_suc (x + x) q ∙ ap (λ (n : ℕ). bit n q) (half_twice x)

pub bit_twice_zero : (x : ℕ) → bit (x + x) 0 ≡ 0
bit_twice_zero x = bit_zero (x + x) ∙ twice_even x

pub bit_double_suc : (x q w : ℕ) → suc q < w → bit ((x + x) % 2 ^ w) (suc q) ≡ bit x q
bit_double_suc x q w h = bit_mod (x + x) (suc q) w h ∙ bit_twice_suc x q

pub bit_double_zero : (x w : ℕ) → 0 < w → bit ((x + x) % 2 ^ w) 0 ≡ 0
bit_double_zero x w h = bit_mod (x + x) 0 w h ∙ bit_twice_zero x

-- ---- a power of two, and the complement

pow_half : (d : ℕ) → 2 ^ suc d / 2 ≡ 2 ^ d
pow_half d = rw pow-suc (omega arith)

pow_even : (d : ℕ) → 2 ^ suc d % 2 ≡ 0
pow_even d = rw pow-suc (omega arith)

pub bit_pow_same : (d : ℕ) → bit (2 ^ d) d ≡ 1
bit_pow_same zero = bit_zero 1
bit_pow_same (suc d) = bit_suc (2 ^ suc d) d ∙ ap (λ (n : ℕ). bit n d) (pow_half d) ∙ bit_pow_same d

pub bit_pow_other : (d q : ℕ) → (d ≡ q → ⊥) → bit (2 ^ d) q ≡ 0
bit_pow_other zero zero h = absurd (h refl)
bit_pow_other zero (suc q) h = bit_high 1 (suc q) 1 (omega arith) (omega arith)
bit_pow_other (suc d) zero h = bit_zero (2 ^ suc d) ∙ pow_even d
bit_pow_other (suc d) (suc q) h =
    bit_suc (2 ^ suc d) q ∙ ap (λ (n : ℕ). bit n q) (pow_half d) ∙ bit_pow_other d q (λ e. h (ap suc e))

not_half : (p x : ℕ) → x < p * 2 → (p * 2 - 1 - x) / 2 ≡ p - 1 - x / 2
not_half p x h = omega arith

not_low : (p x : ℕ) → x < p * 2 → (p * 2 - 1 - x) % 2 ≡ 1 - x % 2
not_low p x h = omega arith

half_below : (x w : ℕ) → x < 2 ^ suc w → x / 2 < 2 ^ w
half_below x w h = let k : x < 2 ^ w * 2 = rw pow-suc at h in omega arith

-- bit q of `!x`, which is `2 ^ w - 1 - x`
pub bit_not : (x q w : ℕ) → x < 2 ^ w → q < w → bit (2 ^ w - 1 - x) q ≡ 1 - bit x q
bit_not x q zero h k = absurd (not-suc-le-zero k)
bit_not x zero (suc w) h k =
    bit_zero (2 ^ suc w - 1 - x)
    ∙ rw pow-suc (not_low (2 ^ w) x (rw pow-suc at h)) ∙ ap (λ (n : ℕ). 1 - n) (sym (bit_zero x))
bit_not x (suc q) (suc w) h k =
    bit_suc (2 ^ suc w - 1 - x) q
    ∙ ap (λ (n : ℕ). bit n q) (rw pow-suc (not_half (2 ^ w) x (rw pow-suc at h)))
    ∙ bit_not (x / 2) q w (half_below x w h) (le_of_suc-le-suc k)
    ∙ ap (λ (n : ℕ). 1 - n) (sym (bit_suc x q))

-- ---- two numbers of w bits are equal where their bits are

by_halves : (a b : ℕ) → a / 2 ≡ b / 2 → a % 2 ≡ b % 2 → a ≡ b
by_halves a b p q = omega arith

pub bit_ext : (w a b : ℕ) → a < 2 ^ w → b < 2 ^ w → ((q : ℕ) → q < w → bit a q ≡ bit b q) → a ≡ b
bit_ext zero a b ha hb h = lt-one ha ∙ sym (lt-one hb)
bit_ext (suc w) a b ha hb h =
    by_halves a b
    (bit_ext w (a / 2) (b / 2) (half_below a w ha) (half_below b w hb)
    (λ q k. sym (bit_suc a q) ∙ h (suc q) (suc-le-suc k) ∙ bit_suc b q))
    (sym (bit_zero a) ∙ h 0 (suc-le-suc zero-le) ∙ bit_zero b)

-- ---- the number with given bits

module _ where
  pub bit_number : (w : ℕ) (f : ℕ → ℕ) → ((q : ℕ) → f q < 2) → (q : ℕ) → q < w → bit (number w f) q ≡ f q
  unfolding number
  bit_number zero f b q h = absurd (not-suc-le-zero h)
  bit_number (suc w) f b zero h =
      bit_zero (f 0 + 2 * number w (λ q. f (suc q))) ∙ omega (arith, b 0)
  bit_number (suc w) f b (suc q) h =
      let e : (f 0 + 2 * number w (λ q. f (suc q))) / 2 ≡ number w (λ q. f (suc q)) = omega (arith, b 0) in
      bit_suc (f 0 + 2 * number w (λ q. f (suc q))) q ∙ ap (λ (n : ℕ). bit n q) e
      ∙ bit_number w (λ q. f (suc q)) (λ q. b (suc q)) q (le_of_suc-le-suc h)

  pub number_lt : (w : ℕ) (f : ℕ → ℕ) → ((q : ℕ) → f q < 2) → number w f < 2 ^ w
  unfolding number
  number_lt zero f b = zero-lt-suc 0
  number_lt (suc w) f b = rw pow-suc (omega (arith, b 0, number_lt w (λ q. f (suc q)) (λ q. b (suc q))))

  -- a number of w bits is the number with its bits
  pub number_unique : (w : ℕ) (f : ℕ → ℕ) → ((q : ℕ) → f q < 2) → (x : ℕ) → x < 2 ^ w → ((q : ℕ) → q < w → bit x q ≡ f q) → x ≡ number w f
  number_unique w f b x h e = bit_ext w x (number w f) h (number_lt w f b) (λ q k. e q k ∙ sym (bit_number w f b q k))

  -- the same bits; ones alone; and the larger of two bits at each place
  pub number_same : (w : ℕ) (f g : ℕ → ℕ) → ((q : ℕ) → f q ≡ g q) → number w f ≡ number w g
  unfolding number
  number_same zero f g h = refl
  number_same (suc w) f g h = ap₂ (λ (a n : ℕ). a + 2 * n) (h 0) (number_same w (λ q. f (suc q)) (λ q. g (suc q)) (λ q. h (suc q)))
