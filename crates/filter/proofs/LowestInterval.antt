-- A word of the theme table by the lowest interval of its set, over any width: the word of the set of no interval is all ones
-- (`word_none`), and the word of a set is that of the set without its lowest interval, and-ed with the word of that interval
-- alone (`word_lowest`). Before them, what `set | (set + 1)` is (`lowest_without`). Assumes nothing.
use Rattle.std.proofs.Common.{◌≡◌, ℕ, zero, suc, ◌+◌, ◌-◌, ◌/◌, ◌%◌, ◌^◌, ◌<◌, ◌≤◌, min, List, length, sym, refl, ap, ◌∙◌, suc-le-suc, le_of_suc-le-suc, mod-lt, zero-lt-suc, pow-suc, arith}
use native.Mathlib.Decide.{ℕ_discrete, dec_le}
use lib.Bits.{bit_and, bit_or, or_step, or_self, or_zero_r, and_lt}
use lib.Count.{count_trailing_zeros}
use lib.Pow.{pow-lt, ones_lt}
use Rattle.theory.specs.Bits.{bit}
use Rattle.theory.proofs.Bits.{bit_lt, bit_and_lem, bit_zero, bit_suc, bit_ones, bit_not, bit_pow_same, bit_pow_other, bit_ext}
use Rattle.theory.proofs.Masks.{put_other}
use Rattle.score.specs.Limits.{highest_set}
use Rattle.filter.specs.Table.{theme_interval, word}
use Rattle.filter.specs.LowestInterval.{alone, LowestInterval}
use Rattle.filter.proofs.Words.{word_in, word_out, word_lt, word_unique}

-- ---- the lowest interval

-- of an even set it is 0, and without it the set is the next one
pub even_lowest : (set : ℕ) → set % 2 ≡ 0 → LowestInterval set 0
even_lowest set e = record { present = bit_zero set ∙ e; below = λ q l. absurd (omega arith) }

pub even_without : (set : ℕ) → set % 2 ≡ 0 → bit_or set (set + 1) ≡ set + 1
even_without set e =
    let h : (set + 1) / 2 ≡ set / 2 = omega (arith, e) in
    omega (arith, e, or_step set (set + 1), ap (bit_or (set / 2)) h, or_self (set / 2))

-- of an odd set, by that of its half
odd_lowest : {set d : ℕ} → LowestInterval (set / 2) d → set % 2 ≡ 1 → LowestInterval set (suc d)
odd_lowest {set} {d} low e = record { present = bit_suc set d ∙ low.present; below = below' }
  where
    below' : (q : ℕ) → q < suc d → bit set q ≡ 1
    below' zero l = bit_zero set ∙ e
    below' (suc q) l = bit_suc set q ∙ low.below q (le_of_suc-le-suc l)

halved : {set d : ℕ} → LowestInterval set (suc d) → LowestInterval (set / 2) d
halved {set} {d} low =
    record { present = sym (bit_suc set d) ∙ low.present; below = λ q l. sym (bit_suc set q) ∙ low.below (suc q) (suc-le-suc l) }

-- it is the number of zeros at the end of `!set`
pub lowest_counted : (k set : ℕ) → set + 1 < 2 ^ k → LowestInterval set (count_trailing_zeros k (2 ^ k - 1 - set))
unfolding count_trailing_zeros
lowest_counted zero set h = absurd (omega arith)
lowest_counted (suc k) set h = step (set % 2) refl (λ q. lowest_counted k (set / 2) q)
  where
    step : (b : ℕ) → set % 2 ≡ b → (set / 2 + 1 < 2 ^ k → LowestInterval (set / 2) (count_trailing_zeros k (2 ^ k - 1 - set / 2)))
        → LowestInterval set (count_trailing_zeros (suc k) (2 ^ suc k - 1 - set))
    step zero e ih =
        let t : (2 ^ suc k - 1 - set) % 2 ≡ 1 = omega (arith, pow-suc 2 k) in
        rw t (even_lowest set e)
    step (suc zero) e ih =
        let t : (2 ^ suc k - 1 - set) % 2 ≡ 0 = omega (arith, pow-suc 2 k) in
        let n : (2 ^ suc k - 1 - set) / 2 ≡ 2 ^ k - 1 - set / 2 = omega (arith, pow-suc 2 k) in
        rw (t, n) (odd_lowest (ih (omega (arith, pow-suc 2 k))) e)
    step (suc (suc b)) e ih = absurd (omega (arith, mod-lt set (zero-lt-suc 1)))

-- `set + 1` ends in as many zeros as `!set`: the two are opposite numbers
pub zeros_opposite : (k set : ℕ) → set + 1 < 2 ^ k → count_trailing_zeros k (set + 1) ≡ count_trailing_zeros k (2 ^ k - 1 - set)
unfolding count_trailing_zeros
zeros_opposite zero set h = absurd (omega arith)
zeros_opposite (suc k) set h = step (set % 2) refl (λ q. zeros_opposite k (set / 2) q)
  where
    step : (b : ℕ) → set % 2 ≡ b → (set / 2 + 1 < 2 ^ k → count_trailing_zeros k (set / 2 + 1) ≡ count_trailing_zeros k (2 ^ k - 1 - set / 2))
        → count_trailing_zeros (suc k) (set + 1) ≡ count_trailing_zeros (suc k) (2 ^ suc k - 1 - set)
    step zero e ih =
        let a : (set + 1) % 2 ≡ 1 = omega (arith, e) in
        let b : (2 ^ suc k - 1 - set) % 2 ≡ 1 = omega (arith, pow-suc 2 k) in
        rw (a, b) refl
    step (suc zero) e ih =
        let a : (set + 1) % 2 ≡ 0 = omega (arith, e) in
        let b : (2 ^ suc k - 1 - set) % 2 ≡ 0 = omega (arith, pow-suc 2 k) in
        let c : (set + 1) / 2 ≡ set / 2 + 1 = omega (arith, e) in
        let d : (2 ^ suc k - 1 - set) / 2 ≡ 2 ^ k - 1 - set / 2 = omega (arith, pow-suc 2 k) in
        rw (a, b, c, d) (ap (λ (n : ℕ). suc n) (ih (omega (arith, pow-suc 2 k, e))))
    step (suc (suc b)) e ih = absurd (omega (arith, mod-lt set (zero-lt-suc 1)))

-- adding 1 turns the lowest 0 into a 1 and the ones below it into zeros; or-ed with the set, that is the set with one 1 more
pub lowest_without : (d set : ℕ) → LowestInterval set d → bit_or set (set + 1) ≡ bit_or set (2 ^ d)
lowest_without zero set low =
    let e : set % 2 ≡ 0 = sym (bit_zero set) ∙ low.present in
    omega (arith, e, even_without set e, or_step set 1, or_zero_r (set / 2))
lowest_without (suc d) set low =
    let e : set % 2 ≡ 1 = sym (bit_zero set) ∙ low.below 0 (omega arith) in
    let h : (set + 1) / 2 ≡ set / 2 + 1 = omega (arith, e) in
    let p : 2 ^ suc d / 2 ≡ 2 ^ d = omega (arith, pow-suc 2 d) in
    let ih = lowest_without d (set / 2) (halved low) in
    omega (arith, e, or_step set (set + 1), ap (bit_or (set / 2)) h, or_step set (2 ^ suc d), ap (bit_or (set / 2)) p, pow-suc 2 d, ih)

-- a set below 4095 has one of the twelve
pub lowest_lt : {set d : ℕ} → LowestInterval set d → set < highest_set → d < 12
lowest_lt {set} {d} low h = pick (dec_le 12 d)
  where
    pick : Dec (12 ≤ d) → d < 12
    pick (yes l) =
        let e : set ≡ highest_set = bit_ext 12 set highest_set (omega arith) (omega arith) (λ q k. low.below q (omega arith) ∙ sym (bit_ones q 12 k)) in
        absurd (omega arith)
    pick (no l) = omega arith

-- ---- the set of one interval

pub alone_same : (d : ℕ) → d < 12 → bit (alone d) d ≡ 0
alone_same d h = bit_not (2 ^ d) d 12 (pow-lt h) h ∙ ap (λ (n : ℕ). 1 - n) (bit_pow_same d)

pub alone_other : (d q : ℕ) → d < 12 → q < 12 → (d ≡ q → ⊥) → bit (alone d) q ≡ 1
alone_other d q h k n = bit_not (2 ^ d) q 12 (pow-lt h) k ∙ ap (λ (n : ℕ). 1 - n) (bit_pow_other d q n)

-- ---- the word

module _ (w : ℕ) (theme : List ℕ) where
  pub word_none : 2 ^ w - 1 ≡ word w theme highest_set
  word_none =
      word_unique w theme highest_set (2 ^ w - 1) (ones_lt w)
      (λ i l m. bit_ones i w l ∙ sym (bit_ones (theme_interval theme i).0 12 (mod-lt _ (zero-lt-suc 11)))) (λ i l m. bit_ones i w l)

  pub word_lowest : (set d : ℕ) → LowestInterval set d → d < 12
      → word w theme set ≡ bit_and (word w theme (bit_or set (set + 1))) (word w theme (alone d))
  word_lowest set d low h =
      bit_ext w (word w theme set) (bit_and (word w theme without) (word w theme (alone d))) (word_lt w theme set)
      (and_lt w (word w theme without) (word w theme (alone d)) (word_lt w theme without) (word_lt w theme (alone d)))
      (λ i l. pick i l (dec_le (i + 2) (length theme)) ∙ sym (bit_and_lem (word w theme without) (word w theme (alone d)) i))
    where
      without : ℕ
      without = bit_or set (set + 1)

      each : (t : ℕ) → t < 12 → Dec (d ≡ t) → bit set t ≡ min (bit without t) (bit (alone d) t)
      each t l (yes e) = rw (← e) (omega (arith, low.present, alone_same d h))
      each t l (no n) =
          omega (arith, ap (λ (x : ℕ). bit x t) (lowest_without d set low), put_other set d t n, alone_other d t h l n, bit_lt set t)

      pick : (i : ℕ) → i < w → Dec (i + 2 ≤ length theme) → bit (word w theme set) i ≡ min (bit (word w theme without) i) (bit (word w theme (alone d)) i)
      pick i l (yes k) =
          let t = (theme_interval theme i).0 in
          let bits = each t (mod-lt _ (zero-lt-suc 11)) (ℕ_discrete d t) in
          omega (arith, bits, word_in w theme set i l k, word_in w theme without i l k, word_in w theme (alone d) i l k)
      pick i l (no k) =
          let g : length theme < i + 2 = omega arith in
          omega (arith, word_out w theme set i l g, word_out w theme without i l g, word_out w theme (alone d) i l g)
