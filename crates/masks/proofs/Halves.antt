-- Two halves of 64 bits as one number, `value`: its bits, its bounds and its ones, an `and` and an `or` of two such numbers, a bit put, and
-- what it marks. Where code has halves, these laws say what they make, and all else is said of the number. `value_unique`: the number
-- settles both halves. Assumes nothing.
use mathlib.Core.Path.{◌≡◌, sym, ap, ◌∙◌}
use mathlib.Core.List.{◌++◌}
use Prim.Native.Nat.{ℕ, ◌+◌, ◌-◌, ◌/◌, ◌%◌, ◌^◌, ◌≤◌, ◌<◌}
use native.Mathlib.Nat.{add_comm, lt_of_le_of_lt, mod-lt, zero-lt-suc}
use native.Mathlib.Decide.{dec_lt}
use native.Mathlib.Omega.{arith}
use lib.Arith.{digits_lt}
use lib.Bits.{bit_or, bit_and, or_lt, and_le_l, and_le_r, or_add_and, or_zero_r, and_block, or_block}
use lib.Count.{ones, ones_cat, ones-le}
use lib.Pow.{high as high-of, low as low_of, pow-lt, pow-add, pow_pos, ones_split}
use Rattle.theory.specs.Bits.{bit}
use Rattle.theory.specs.Marks.{marks}
use Rattle.theory.proofs.Bits.{bit_shr, bit_mod, bit_ext}
use Rattle.theory.proofs.Marks.{marks_same, marks_append}
use Rattle.masks.specs.Masks.{value}

-- halves are below 2 ^ 64, as code has them
pub record Halves (low high : ℕ) : Type 0 where
  pub lower : low < 2 ^ 64
  pub upper : high < 2 ^ 64

-- no bit at all
pub halves_none : Halves 0 0
halves_none = record { lower = pow_pos 64; upper = pow_pos 64 }

-- ---- one number

-- a number that its lower half has alone
pub value_few : (low : ℕ) → value low 0 ≡ low
unfolding value
value_few low = omega arith

-- every bit
pub value_full : value (2 ^ 64 - 1) (2 ^ 64 - 1) ≡ 2 ^ 128 - 1
unfolding value
value_full = sym (ones_split 64 64)

or_none_left : (x y : ℕ) → bit_or x y ≡ 0 → x ≡ 0
or_none_left x y e = omega (arith, e, or_add_and x y, and_le_r x y)

or_none_right : (x y : ℕ) → bit_or x y ≡ 0 → y ≡ 0
or_none_right x y e = omega (arith, e, or_add_and x y, and_le_l x y)

module _ (low high : ℕ) (h : Halves low high) where
  pub value_low : value low high % 2 ^ 64 ≡ low
  unfolding value
  value_low = low_of high 64 h.lower

  pub value_high : value low high / 2 ^ 64 ≡ high
  unfolding value
  value_high = high-of high 64 h.lower

  pub value_lt : value low high < 2 ^ 128
  unfolding value
  value_lt = digits_lt h.upper h.lower

  pub bit_lower : (i : ℕ) → i < 64 → bit (value low high) i ≡ bit low i
  bit_lower i k = sym (bit_mod (value low high) i 64 k) ∙ ap (λ (n : ℕ). bit n i) value_low

  pub bit_upper : (i : ℕ) → bit (value low high) (64 + i) ≡ bit high i
  bit_upper i = sym (bit_shr (value low high) 64 i) ∙ ap (λ (n : ℕ). bit n i) value_high

  -- a number below 2 ^ 128 is told by the bits of its halves
  pub value_is : (x : ℕ) → x < 2 ^ 128 → ((i : ℕ) → i < 64 → bit low i ≡ bit x i) → ((i : ℕ) → i < 64 → bit high i ≡ bit x (64 + i)) → value low high ≡ x
  value_is x l a b = bit_ext 128 (value low high) x value_lt l (λ i k. pick i k (dec_lt i 64))
    where
      pick : (i : ℕ) → i < 128 → Dec (i < 64) → bit (value low high) i ≡ bit x i
      pick i k (yes n) = bit_lower i n ∙ a i n
      pick i k (no n) =
          let e : i ≡ 64 + (i - 64) = omega arith in
          rw e (bit_upper (i - 64) ∙ b (i - 64) (omega arith))

  pub value_ones : ones low + ones high ≡ ones (value low high)
  unfolding value
  value_ones = add_comm (ones low) (ones high) ∙ sym (ones_cat 64 high low h.lower)

  pub value_ones_le : ones low + ones high ≤ 128
  value_ones_le = omega (arith, ones-le 64 low h.lower, ones-le 64 high h.upper)

  -- no bit, where neither half has one
  pub value_none : bit_or low high ≡ 0 → value low high ≡ 0
  value_none e = rw (or_none_left low high e, or_none_right low high e) (value_few 0)

  -- what the lower half marks, and then the upper
  pub marks_value : (z : ℕ) → marks 128 z (value low high) ≡ marks 64 z low ++ marks 64 (z + 64) high
  marks_value z = marks_append 64 64 z (value low high) ∙ rw (marks_same 64 z (value low high) low bit_lower, value_high)

-- ---- two numbers

module _ (a b c d : ℕ) (h : Halves a b) (k : Halves c d) where
  pub value_unique : value a b ≡ value c d → (a ≡ c) × (b ≡ d)
  value_unique e =
      (sym (value_low a b h) ∙ ap (λ (n : ℕ). n % 2 ^ 64) e ∙ value_low c d k, sym (value_high a b h) ∙ ap (λ (n : ℕ). n / 2 ^ 64) e ∙ value_high c d k)

  pub value_and : value (bit_and a c) (bit_and b d) ≡ bit_and (value a b) (value c d)
  unfolding value
  value_and = sym (and_block 64 b d a c h.lower k.lower)

  pub halves_and : Halves (bit_and a c) (bit_and b d)
  halves_and = record { lower = lt_of_le_of_lt (and_le_l a c) h.lower; upper = lt_of_le_of_lt (and_le_l b d) h.upper }

  pub value_or : value (bit_or a c) (bit_or b d) ≡ bit_or (value a b) (value c d)
  unfolding value
  value_or = sym (or_block 64 b d a c h.lower k.lower)

-- ---- a bit put into its half

power_lower : (n : ℕ) → n < 64 → Halves (2 ^ n) 0
power_lower n l = record { lower = pow-lt l; upper = omega arith }

power_upper : (n : ℕ) → n < 64 → Halves 0 (2 ^ n)
power_upper n l = record { lower = omega arith; upper = pow-lt l }

power_high : (n : ℕ) → value 0 (2 ^ n) ≡ 2 ^ (n + 64)
unfolding value
power_high n = omega (arith, pow-add 2 n 64)

module _ (low high n : ℕ) (h : Halves low high) where
  pub put_lower : n < 64 → value (bit_or low (2 ^ (n % 64))) high ≡ bit_or (value low high) (2 ^ n)
  put_lower l =
      let e : n % 64 ≡ n = omega arith in
      rw e
      (ap (value (bit_or low (2 ^ n))) (sym (or_zero_r high)) ∙ value_or low high (2 ^ n) 0 h (power_lower n l)
      ∙ ap (bit_or (value low high)) (value_few (2 ^ n)))

  pub put_upper : 64 ≤ n → n < 128 → value low (bit_or high (2 ^ (n % 64))) ≡ bit_or (value low high) (2 ^ n)
  put_upper l u =
      let e : n % 64 ≡ n - 64 = omega arith in
      let f : n - 64 + 64 ≡ n = omega arith in
      rw e
      (ap (λ (x : ℕ). value x (bit_or high (2 ^ (n - 64)))) (sym (or_zero_r low)) ∙ value_or low high 0 (2 ^ (n - 64)) h (power_upper (n - 64) (omega arith))
      ∙ ap (bit_or (value low high)) (power_high (n - 64) ∙ ap (λ (i : ℕ). 2 ^ i) f))

  -- and halves they stay
  power_lt : 2 ^ (n % 64) < 2 ^ 64
  power_lt = pow-lt (mod-lt n (zero-lt-suc 63))

  pub halves_lower : Halves (bit_or low (2 ^ (n % 64))) high
  halves_lower = record { lower = or_lt 64 low (2 ^ (n % 64)) h.lower power_lt; upper = h.upper }

  pub halves_upper : Halves low (bit_or high (2 ^ (n % 64)))
  halves_upper = record { lower = h.lower; upper = or_lt 64 high (2 ^ (n % 64)) h.upper power_lt }
