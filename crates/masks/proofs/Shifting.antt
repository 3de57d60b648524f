-- Shifts of the halves are shifts of the one number: down (`down_near`, `down_far`) and up (`up_near`, `up_far`), each by up to 63 places or
-- by 64 and more; and twelve bits turned round (`turned_round`). Then the word moved by a note. Assumes nothing.
use mathlib.Core.Path.{◌≡◌, sym, ap, ap₂, ◌∙◌}
use mathlib.Core.Bool.{Bool, true, false, cond}
use Prim.Native.Nat.{ℕ, ◌+◌, ◌-◌, ◌*◌, ◌/◌, ◌%◌, ◌^◌, ◌≤◌, ◌<◌, zero-le, max}
use native.Mathlib.Nat.{mod-lt, lt_of_le_of_lt}
use native.Mathlib.Decide.{dec_lt}
use native.Mathlib.Omega.{arith}
use lib.Bits.{bit_or, bit_and, or_lt, and_mask, or_mod}
use lib.Dec.{leb}
use lib.Pow.{pow_pos, shr_le, mod-mod-pow}
use borrow.Author.Tests.{le-leb, lt-leb}
use Rattle.theory.specs.Bits.{bit}
use Rattle.theory.proofs.Bits.{bit_lt, bit_or_lem, bit_shr, bit_shl, bit_shl_low, bit_high, bit_ext, number_unique}
use Rattle.theory.proofs.Masks.{shl_high, shl_low}
use Rattle.masks.specs.Masks.{value, turned_word, shifted_word}
use Rattle.masks.proofs.Halves.{Halves, value_lt, value_is, bit_lower, bit_upper}
use Rattle.masks.proofs.HeldWords.{turned_lt, turned_bits}

no_bit : (i : ℕ) → bit 0 i ≡ 0
no_bit i = bit_high 0 i 0 (omega arith) zero-le

module _ (low high d : ℕ) (h : Halves low high) where
  abbrev x : ℕ
  x = value low high

  x_lt : x < 2 ^ 128
  x_lt = value_lt low high h

  -- a bit of the number, in its upper half
  upper_at : (q t : ℕ) → 64 + q ≡ t → bit high q ≡ bit x t
  upper_at q t e = sym (bit_upper low high h q) ∙ ap (bit x) e

  -- ---- down

  shr_lt : x / 2 ^ d < 2 ^ 128
  shr_lt = lt_of_le_of_lt (shr_le x d) x_lt

  abbrev down_low : ℕ
  down_low = bit_or (low / 2 ^ d) (high * 2 ^ 1 % 2 ^ 64 * 2 ^ (63 - d) % 2 ^ 64)

  down_bit : d < 64 → (i : ℕ) → i < 64 → bit down_low i ≡ bit x (d + i)
  down_bit n i k = bit_or_lem (low / 2 ^ d) (high * 2 ^ 1 % 2 ^ 64 * 2 ^ (63 - d) % 2 ^ 64) i ∙ pick (dec_lt (d + i) 64)
    where
      edge : Dec (i < 63 - d) → d + i < 64 → bit (high * 2 ^ 1 % 2 ^ 64 * 2 ^ (63 - d) % 2 ^ 64) i ≡ 0
      edge (yes e) m = shl_low (high * 2 ^ 1 % 2 ^ 64) (63 - d) i 64 e k
      edge (no e) m =
          let a : i ≡ 63 - d + 0 = omega arith in
          ap (bit (high * 2 ^ 1 % 2 ^ 64 * 2 ^ (63 - d) % 2 ^ 64)) a ∙ shl_high (high * 2 ^ 1 % 2 ^ 64) (63 - d) 0 64 (omega arith)
          ∙ shl_low high 1 0 64 (omega arith) (omega arith)

      pick : Dec (d + i < 64) → max (bit (low / 2 ^ d) i) (bit (high * 2 ^ 1 % 2 ^ 64 * 2 ^ (63 - d) % 2 ^ 64) i) ≡ bit x (d + i)
      pick (yes m) = rw (bit_shr low d i, edge (dec_lt i (63 - d)) m) (omega (arith, bit_lower low high h (d + i) m))
      pick (no m) =
          let a : i ≡ 63 - d + (1 + (d + i - 64)) = omega arith in
          let b : bit (high * 2 ^ 1 % 2 ^ 64 * 2 ^ (63 - d) % 2 ^ 64) i ≡ bit high (d + i - 64) =
          ap (bit (high * 2 ^ 1 % 2 ^ 64 * 2 ^ (63 - d) % 2 ^ 64)) a
          ∙ shl_high (high * 2 ^ 1 % 2 ^ 64) (63 - d) (1 + (d + i - 64)) 64 (omega arith) ∙ shl_high high 1 (d + i - 64) 64 (omega arith) in
          omega (arith, bit_shr low d i, bit_high low (d + i) 64 h.lower (omega arith), b, upper_at (d + i - 64) (d + i) (omega arith))

  pub down_near : d < 64 → value down_low (high / 2 ^ d) ≡ x / 2 ^ d
  down_near n =
      value_is down_low (high / 2 ^ d)
      (record {
        lower = or_lt 64 (low / 2 ^ d) (high * 2 ^ 1 % 2 ^ 64 * 2 ^ (63 - d) % 2 ^ 64) (lt_of_le_of_lt (shr_le low d) h.lower) (mod-lt _ (pow_pos 64));
        upper = lt_of_le_of_lt (shr_le high d) h.upper;
      })
      (x / 2 ^ d) shr_lt (λ i k. down_bit n i k ∙ sym (bit_shr x d i))
      (λ i k. bit_shr high d i ∙ upper_at (d + i) (d + (64 + i)) (omega arith) ∙ sym (bit_shr x d (64 + i)))

  pub down_far : 64 ≤ d → value (high / 2 ^ (d - 64)) 0 ≡ x / 2 ^ d
  down_far n =
      value_is (high / 2 ^ (d - 64)) 0 (record { lower = lt_of_le_of_lt (shr_le high (d - 64)) h.upper; upper = pow_pos 64 }) (x / 2 ^ d) shr_lt
      (λ i k. bit_shr high (d - 64) i ∙ upper_at (d - 64 + i) (d + i) (omega arith) ∙ sym (bit_shr x d i))
      (λ i k. no_bit i ∙ sym (bit_shr x d (64 + i) ∙ bit_high x (d + (64 + i)) 128 x_lt (omega arith)))

  pub down_out : 128 ≤ d → value 0 0 ≡ x / 2 ^ d
  down_out n =
      value_is 0 0 (record { lower = pow_pos 64; upper = pow_pos 64 }) (x / 2 ^ d) shr_lt
      (λ i k. no_bit i ∙ sym (bit_shr x d i ∙ bit_high x (d + i) 128 x_lt (omega arith)))
      (λ i k. no_bit i ∙ sym (bit_shr x d (64 + i) ∙ bit_high x (d + (64 + i)) 128 x_lt (omega arith)))

  -- ---- up

  abbrev shl : ℕ
  shl = x * 2 ^ d % 2 ^ 128

  shl_lt : shl < 2 ^ 128
  shl_lt = mod-lt _ (pow_pos 128)

  -- bit i comes from d below, or there is none
  shl_bit : (i b : ℕ) → i < 128 → (d ≤ i → b ≡ bit x (i - d)) → (i < d → b ≡ 0) → b ≡ bit shl i
  shl_bit i b k from none = pick (dec_lt i d)
    where
      pick : Dec (i < d) → b ≡ bit shl i
      pick (yes n) = none n ∙ sym (shl_low x d i 128 n k)
      pick (no n) =
          let e : d + (i - d) ≡ i = omega arith in
          from (omega arith) ∙ sym (shl_high x d (i - d) 128 (omega arith)) ∙ ap (bit shl) e

  abbrev up_high : ℕ
  up_high = bit_or (high * 2 ^ d % 2 ^ 64) (low / 2 ^ 1 / 2 ^ (63 - d))

  up_bit : d < 64 → (i : ℕ) → i < 64 → bit up_high i ≡ bit x (64 + i - d)
  up_bit n i k = bit_or_lem (high * 2 ^ d % 2 ^ 64) (low / 2 ^ 1 / 2 ^ (63 - d)) i ∙ rw second (pick (dec_lt i d))
    where
      second : bit (low / 2 ^ 1 / 2 ^ (63 - d)) i ≡ bit low (64 + i - d)
      second = bit_shr (low / 2 ^ 1) (63 - d) i ∙ bit_shr low 1 (63 - d + i) ∙ ap (bit low) (omega arith)

      pick : Dec (i < d) → max (bit (high * 2 ^ d % 2 ^ 64) i) (bit low (64 + i - d)) ≡ bit x (64 + i - d)
      pick (yes m) = rw (shl_low high d i 64 m k) (omega (arith, bit_lower low high h (64 + i - d) (omega arith)))
      pick (no m) =
          let a : d + (i - d) ≡ i = omega arith in
          let b : bit (high * 2 ^ d % 2 ^ 64) i ≡ bit high (i - d) = ap (bit (high * 2 ^ d % 2 ^ 64)) (sym a) ∙ shl_high high d (i - d) 64 (omega arith) in
          omega (arith, b, upper_at (i - d) (64 + i - d) (omega arith), bit_high low (64 + i - d) 64 h.lower (omega arith))

  pub up_near : d < 64 → value (low * 2 ^ d % 2 ^ 64) up_high ≡ shl
  up_near n =
      value_is (low * 2 ^ d % 2 ^ 64) up_high
      (record {
        lower = mod-lt _ (pow_pos 64);
        upper =
            or_lt 64 (high * 2 ^ d % 2 ^ 64) (low / 2 ^ 1 / 2 ^ (63 - d)) (mod-lt _ (pow_pos 64))
            (lt_of_le_of_lt (shr_le (low / 2 ^ 1) (63 - d)) (lt_of_le_of_lt (shr_le low 1) h.lower));
      })
      shl shl_lt (λ i k. shl_bit i (bit (low * 2 ^ d % 2 ^ 64) i) (omega arith) (λ m. lower_bit i k m) (λ m. shl_low low d i 64 m k))
      (λ i k. shl_bit (64 + i) (bit up_high i) (omega arith) (λ m. up_bit n i k) (λ m. absurd (omega arith)))
    where
      lower_bit : (i : ℕ) → i < 64 → d ≤ i → bit (low * 2 ^ d % 2 ^ 64) i ≡ bit x (i - d)
      lower_bit i k m =
          let e : i ≡ d + (i - d) = omega arith in
          ap (bit (low * 2 ^ d % 2 ^ 64)) e ∙ shl_high low d (i - d) 64 (omega arith) ∙ sym (bit_lower low high h (i - d) (omega arith))

  pub up_far : 64 ≤ d → d < 128 → value 0 (low * 2 ^ (d - 64) % 2 ^ 64) ≡ shl
  up_far n u =
      value_is 0 (low * 2 ^ (d - 64) % 2 ^ 64) (record { lower = pow_pos 64; upper = mod-lt _ (pow_pos 64) })
      shl shl_lt (λ i k. shl_bit i (bit 0 i) (omega arith) (λ m. absurd (omega arith)) (λ m. no_bit i))
      (λ i k. shl_bit (64 + i) (bit (low * 2 ^ (d - 64) % 2 ^ 64) i) (omega arith) (λ m. upper_bit i k m) (λ m. shl_low low (d - 64) i 64 (omega arith) k))
    where
      upper_bit : (i : ℕ) → i < 64 → d ≤ 64 + i → bit (low * 2 ^ (d - 64) % 2 ^ 64) i ≡ bit x (64 + i - d)
      upper_bit i k m =
          let e : i ≡ d - 64 + (64 + i - d) = omega arith in
          ap (bit (low * 2 ^ (d - 64) % 2 ^ 64)) e ∙ shl_high low (d - 64) (64 + i - d) 64 (omega arith) ∙ sym (bit_lower low high h (64 + i - d) (omega arith))

  pub up_out : 128 ≤ d → value 0 0 ≡ shl
  up_out n =
      value_is 0 0 (record { lower = pow_pos 64; upper = pow_pos 64 }) shl shl_lt
      (λ i k. shl_bit i (bit 0 i) (omega arith) (λ m. absurd (omega arith)) (λ m. no_bit i))
      (λ i k. shl_bit (64 + i) (bit 0 i) (omega arith) (λ m. absurd (omega arith)) (λ m. no_bit i))

-- ---- twelve bits turned round

-- as code writes them
pub turned_round : (low d : ℕ) → bit_and (bit_or (low / 2 ^ d) (low * 2 ^ (12 - d) % 2 ^ 64)) 4095 ≡ turned_word d low
unfolding turned_word
turned_round low d =
    and_mask (bit_or (low / 2 ^ d) (low * 2 ^ (12 - d) % 2 ^ 64)) 12 ∙ or_mod (low / 2 ^ d) (low * 2 ^ (12 - d) % 2 ^ 64) 12
    ∙ ap (bit_or (low / 2 ^ d % 2 ^ 12)) (mod-mod-pow (low * 2 ^ (12 - d)) 52 12) ∙ sym (or_mod (low / 2 ^ d) (low * 2 ^ (12 - d)) 12)

-- the lower half alone is turned
pub turned_low : (d low high : ℕ) → d < 12 → Halves low high → turned_word d low ≡ turned_word d (value low high)
turned_low d low high l h =
    bit_ext 12 (turned_word d low) (turned_word d (value low high)) (turned_lt d low) (turned_lt d (value low high))
    (λ i k. turned_bits d low i k ∙ ap₂ max (same (d + i) (omega arith)) (up i k (dec_lt i (12 - d))) ∙ sym (turned_bits d (value low high) i k))
  where
    same : (i : ℕ) → i < 64 → bit low i ≡ bit (value low high) i
    same i k = sym (bit_lower low high h i k)

    up : (i : ℕ) → i < 12 → Dec (i < 12 - d) → bit (low * 2 ^ (12 - d)) i ≡ bit (value low high * 2 ^ (12 - d)) i
    up i k (yes n) = bit_shl_low low (12 - d) i n ∙ sym (bit_shl_low (value low high) (12 - d) i n)
    up i k (no n) =
        let e : 12 - d + (i - (12 - d)) ≡ i = omega arith in
        ap (bit (low * 2 ^ (12 - d))) (sym e) ∙ bit_shl low (12 - d) (i - (12 - d)) ∙ same (i - (12 - d)) (omega arith)
        ∙ sym (bit_shl (value low high) (12 - d) (i - (12 - d))) ∙ ap (bit (value low high * 2 ^ (12 - d))) e

-- ---- the word moved by a note: down where the note is above the first, up where it is below

module _ (first p x : ℕ) where
  from_lt : (i : ℕ) → cond (leb first (i + p)) (bit x (i + p - first)) 0 < 2
  from_lt i = pick (leb first (i + p))
    where
      pick : (b : Bool) → cond b (bit x (i + p - first)) 0 < 2
      pick true = bit_lt x (i + p - first)
      pick false = omega arith

  pub shifted_down : first ≤ p → x < 2 ^ 128 → x / 2 ^ (p - first) ≡ shifted_word first p x
  unfolding shifted_word
  shifted_down h l =
      number_unique 128 (λ i. cond (leb first (i + p)) (bit x (i + p - first)) 0) from_lt (x / 2 ^ (p - first)) (lt_of_le_of_lt (shr_le x (p - first)) l)
      (λ i k.
      let e : p - first + i ≡ i + p - first = omega arith in
      let f : first ≤ i + p = omega arith in
      rw (le-leb first (i + p) f) (bit_shr x (p - first) i ∙ ap (bit x) e))

  pub shifted_up : p < first → x * 2 ^ (first - p) % 2 ^ 128 ≡ shifted_word first p x
  unfolding shifted_word
  shifted_up h =
      number_unique 128 (λ i. cond (leb first (i + p)) (bit x (i + p - first)) 0) from_lt (x * 2 ^ (first - p) % 2 ^ 128) (mod-lt _ (pow_pos 128))
      (λ i k. pick i k (dec_lt i (first - p)))
    where
      pick : (i : ℕ) → i < 128 → Dec (i < first - p) → bit (x * 2 ^ (first - p) % 2 ^ 128) i ≡ cond (leb first (i + p)) (bit x (i + p - first)) 0
      pick i k (yes n) =
          let f : i + p < first = omega arith in
          rw (lt-leb first (i + p) f) (shl_low x (first - p) i 128 n k)
      pick i k (no n) =
          let f : first ≤ i + p = omega arith in
          let e : first - p + (i + p - first) ≡ i = omega arith in
          rw (le-leb first (i + p) f) (ap (bit (x * 2 ^ (first - p) % 2 ^ 128)) (sym e) ∙ shl_high x (first - p) (i + p - first) 128 (omega arith))
