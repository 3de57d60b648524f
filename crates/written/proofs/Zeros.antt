-- Numbers of w bits whose bit i is 0 exactly where a test of i passes: their bits, and how they are and-ed. Assumes nothing.
use mathlib.Core.Path.{◌≡◌, sym, ap, ◌∙◌}
use mathlib.Core.Bool.{Bool, true, false, cond, ◌||◌}
use Prim.Native.Nat.{ℕ, ◌-◌, ◌^◌, ◌<◌, min}
use native.Mathlib.Omega.{arith}
use lib.Bits.{bit_and, and_lt}
use Rattle.theory.specs.Bits.{bit, number}
use Rattle.theory.proofs.Bits.{bit_and_lem, bit_ones, bit_number, number_lt, bit_ext}

abbrev pub zeros : (w : ℕ) → (ℕ → Bool) → ℕ
zeros w test = number w (λ i. cond (test i) 0 1)

few : (b : Bool) → cond b 0 1 < 2
few true = omega arith
few false = omega arith

pub zeros_bit : (w : ℕ) (test : ℕ → Bool) (i : ℕ) → i < w → bit (zeros w test) i ≡ cond (test i) 0 1
zeros_bit w test i h = bit_number w (λ i. cond (test i) 0 1) (λ i. few (test i)) i h

pub zeros_lt : (w : ℕ) (test : ℕ → Bool) → zeros w test < 2 ^ w
zeros_lt w test = number_lt w (λ i. cond (test i) 0 1) (λ i. few (test i))

-- a test that never passes, and two that are and-ed
pub zeros_none : (w : ℕ) (test : ℕ → Bool) → ((i : ℕ) → i < w → test i ≡ false) → zeros w test ≡ 2 ^ w - 1
zeros_none w test h =
    bit_ext w (zeros w test) (2 ^ w - 1) (zeros_lt w test) (omega (arith, zeros_lt w test))
    (λ i k. zeros_bit w test i k ∙ ap (λ (b : Bool). cond b 0 1) (h i k) ∙ sym (bit_ones i w k))

pub zeros_and : (w : ℕ) (test one other : ℕ → Bool) → ((i : ℕ) → i < w → test i ≡ (one i || other i))
    → zeros w test ≡ bit_and (zeros w one) (zeros w other)
zeros_and w test one other h =
    bit_ext w (zeros w test) (bit_and (zeros w one) (zeros w other)) (zeros_lt w test)
    (and_lt w (zeros w one) (zeros w other) (zeros_lt w one) (zeros_lt w other))
    (λ i k. zeros_bit w test i k ∙ ap (λ (b : Bool). cond b 0 1) (h i k) ∙ both (one i) (other i)
    ∙ sym (bit_and_lem (zeros w one) (zeros w other) i ∙ rw (zeros_bit w one i k, zeros_bit w other i k)))
  where
    both : (a b : Bool) → cond (a || b) 0 1 ≡ min (cond a 0 1) (cond b 0 1)
    both true true = omega arith
    both true false = omega arith
    both false true = omega arith
    both false false = omega arith
