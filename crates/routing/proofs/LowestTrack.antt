-- The lowest track of a set: the zeros at the end of a number that is not 0 are the number of its lowest bit that is 1
-- (`lowest_bit`), over any width; and no track is above the last (`track_few`). Assumes nothing.
use mathlib.Core.Path.{◌≡◌, refl, sym, ◌∙◌}
use Prim.Native.Nat.{ℕ, zero, suc, ◌+◌, ◌/◌, ◌%◌, ◌^◌, ◌≤◌, ◌<◌, zero-le, suc-le-suc}
use native.Mathlib.Nat.{mod-lt, pow-suc, zero-lt-suc}
use native.Mathlib.Decide.{dec_lt}
use native.Mathlib.Omega.{arith}
use lib.Count.{count_trailing_zeros}
use Rattle.theory.specs.Bits.{bit}
use Rattle.theory.proofs.Bits.{bit_zero, bit_suc, bit_high}
use Rattle.score.specs.Limits.{most_tracks}

-- bit t of a number of w bits is 1, and no lower one is
pub record LowestBit (w x t : ℕ) : Type 0 where
  pub within : t < w
  pub there : bit x t ≡ 1
  pub least : (q : ℕ) → bit x q ≡ 1 → t ≤ q

pub lowest_bit : (w x : ℕ) → 0 < x → x < 2 ^ w → LowestBit w x (count_trailing_zeros w x)
unfolding count_trailing_zeros
lowest_bit zero x p h = absurd (omega arith)
lowest_bit (suc w) x p h = step (x % 2) refl (λ q. lowest_bit w (x / 2) q (omega (arith, pow-suc 2 w)))
  where
    odd : x % 2 ≡ 1 → LowestBit (suc w) x 0
    odd e = record { within = zero-lt-suc w; there = bit_zero x ∙ e; least = λ q k. zero-le }

    even : (t : ℕ) → x % 2 ≡ 0 → LowestBit w (x / 2) t → LowestBit (suc w) x (suc t)
    even t e r = record { within = suc-le-suc r.within; there = bit_suc x t ∙ r.there; least = above }
      where
        above : (q : ℕ) → bit x q ≡ 1 → suc t ≤ q
        above zero k = absurd (omega (arith, e, bit_zero x, k))
        above (suc q) k = suc-le-suc (r.least q (sym (bit_suc x q) ∙ k))

    step : (d : ℕ) → x % 2 ≡ d → (0 < x / 2 → LowestBit w (x / 2) (count_trailing_zeros w (x / 2)))
        → LowestBit (suc w) x (count_trailing_zeros (suc w) x)
    step zero e ih = rw e (even (count_trailing_zeros w (x / 2)) e (ih (omega (arith, e))))
    step (suc zero) e ih = rw e (odd e)
    step (suc (suc d)) e ih = absurd (omega (arith, e, mod-lt x (zero-lt-suc 1)))

-- the tracks of a set are 16 at most
pub track_few : {set t : ℕ} → set < 2 ^ (most_tracks + 1) → bit set t ≡ 1 → t ≤ most_tracks
track_few {set} {t} few e = pick (dec_lt most_tracks t)
  where
    pick : Dec (most_tracks < t) → t ≤ most_tracks
    pick (yes l) = absurd (omega (arith, e, bit_high set t (most_tracks + 1) few (omega arith)))
    pick (no l) = omega arith
