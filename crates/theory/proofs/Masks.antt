-- What code writes on bits, by `bit`: the test of a bit, `(x >> q) & 1`, a bit put, as `x | (1 << d)`, `1 << d` and `x << d`.
-- Assumes nothing.
use mathlib.Core.Path.{◌≡◌, ap, ◌∙◌}
use Prim.Native.Nat.{ℕ, ◌+◌, ◌*◌, ◌/◌, ◌%◌, ◌^◌, ◌<◌}
use native.Mathlib.Nat.{mod-eq_of_lt, one-mul}
use native.Mathlib.Omega.{arith}
use lib.Bits.{bit_or, bit_and, and_mask}
use lib.Pow.{pow-lt}
use Rattle.theory.specs.Bits.{bit}
use Rattle.theory.proofs.Bits.{bit_lt, bit_or_lem, bit_mod, bit_shl, bit_shl_low, bit_pow_same, bit_pow_other}

pub shr_and_one : (x q : ℕ) → bit_and (x / 2 ^ q) 1 ≡ bit x q
unfolding bit
shr_and_one x q = and_mask (x / 2 ^ q) 1

pub put_same : (x d : ℕ) → bit (bit_or x (2 ^ d)) d ≡ 1
put_same x d = omega (arith, bit_or_lem x (2 ^ d) d, bit_pow_same d, bit_lt x d)

pub put_other : (x d q : ℕ) → (d ≡ q → ⊥) → bit (bit_or x (2 ^ d)) q ≡ bit x q
put_other x d q n = omega (arith, bit_or_lem x (2 ^ d) q, bit_pow_other d q n)

-- `1 << d` at width w
pub one_shl : (d w : ℕ) → d < w → (1 * 2 ^ d) % 2 ^ w ≡ 2 ^ d
one_shl d w h = ap (λ (n : ℕ). n % 2 ^ w) (one-mul (2 ^ d)) ∙ mod-eq_of_lt (pow-lt h)

-- ---- `x << d` at width w

pub shl_high : (x d q w : ℕ) → d + q < w → bit (x * 2 ^ d % 2 ^ w) (d + q) ≡ bit x q
shl_high x d q w h = bit_mod (x * 2 ^ d) (d + q) w h ∙ bit_shl x d q

pub shl_low : (x d q w : ℕ) → q < d → q < w → bit (x * 2 ^ d % 2 ^ w) q ≡ 0
shl_low x d q w h k = bit_mod (x * 2 ^ d) q w k ∙ bit_shl_low x d q h
