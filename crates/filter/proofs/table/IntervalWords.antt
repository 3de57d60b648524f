-- The word of each interval alone, as one pass over the theme makes them: after i intervals each word has its bits below i, and
-- ones from there on. Assumes nothing.
use Rattle.std.proofs.Common.{◌≡◌, ℕ, ◌+◌, ◌-◌, ◌*◌, ◌%◌, ◌^◌, ◌<◌, ◌≤◌, List, length, get_or, set, replicate, sym, refl, ap, ◌∙◌, ap₂, zero-le, mod-lt, mod-eq_of_lt, zero-lt-suc, pow-suc, zero-add, add-one, arith, length-set, get_or-set_other, get_or-set_same, ext_get_or, pow_pos}
use native.Mathlib.Nat.{mod-add-mod, add-mod-mod}
use native.Mathlib.Decide.{ℕ_discrete}
use lib.Bits.{bit_and, bit_or, and_lt}
use lib.ListN.{length-replicate, get_or-replicate}
use lib.Pow.{pow-lt, ones_lt}
use Rattle.theory.specs.Bits.{bit}
use Rattle.theory.proofs.Bits.{bit_lt, bit_and_lem, bit_mod, bit_not, bit_ones, bit_pow_same, bit_pow_other}
use Rattle.theory.proofs.Lists.{count_map_length, count_map_at}
use Rattle.score.specs.Limits.{highest_set}
use Rattle.score.specs.Score.{pitch}
use Rattle.score.specs.Sets.{interval}
use Rattle.filter.specs.Table.{theme_interval, word}
use Rattle.filter.specs.LowestInterval.{alone, interval_words, LowestInterval}
use Rattle.filter.proofs.Words.{word_unique}
use Rattle.filter.proofs.LowestInterval.{lowest_lt, alone_same, alone_other, word_lowest}

-- the mark is the bit of interval i, the next, and 0 from w on
pub record Marked (w : ℕ) (theme : List ℕ) (i mark : ℕ) (words : List ℕ) : Type 0 where
  pub within : i ≤ length theme - 1
  pub long : length words ≡ 12
  pub marks : mark ≡ 2 ^ i % 2 ^ w
  pub small : (d : ℕ) → d < 12 → get_or words d 0 < 2 ^ w
  pub behind : (d : ℕ) → d < 12 → (q : ℕ) → q < w → q < i → bit (get_or words d 0) q ≡ bit (alone d) (theme_interval theme q).0
  pub ahead : (d : ℕ) → d < 12 → (q : ℕ) → q < w → i ≤ q → bit (get_or words d 0) q ≡ 1

pub marked_start : (w : ℕ) (theme : List ℕ) → 0 < w → Marked w theme 0 1 (replicate {A = ℕ} 12 (2 ^ w - 1))
marked_start w theme wide =
    record {
      within = zero-le;
      long = length-replicate {A = ℕ} 12 (2 ^ w - 1);
      marks = sym (mod-eq_of_lt (pow-lt {i = 0} {j = w} wide));
      small = λ d l. rw (full d l) (ones_lt w);
      behind = λ d l q m n. absurd (omega arith);
      ahead = λ d l q m n. ap (λ (x : ℕ). bit x q) (full d l) ∙ bit_ones q w m;
    }
  where
    full : (d : ℕ) → d < 12 → get_or (replicate {A = ℕ} 12 (2 ^ w - 1)) d 0 ≡ 2 ^ w - 1
    full d l = get_or-replicate {A = ℕ} 12 d (2 ^ w - 1) 0 l

-- the next interval, at: its word loses the marked bit, and the others stay
module _ {w : ℕ} {theme : List ℕ} {i mark : ℕ} {words : List ℕ} (at : ℕ) (a : Marked w theme i mark words) (h : i + 1 < length theme)
    (step : at ≡ (interval (pitch (get_or theme i 0)) (pitch (get_or theme (i + 1) 0))).0) where
  e : at ≡ (theme_interval theme i).0
  e = step ∙ ap₂ (λ (a b : ℕ). (interval (pitch (get_or theme a 0)) (pitch (get_or theme b 0))).0) (omega arith) (omega arith)

  abbrev v : ℕ
  v = bit_and (get_or words at 0) (2 ^ w - 1 - mark)

  below : at < 12
  below = rw e (mod-lt _ (zero-lt-suc 11))

  mark_lt : mark < 2 ^ w
  mark_lt = rw a.marks (mod-lt (2 ^ i) (pow_pos w))

  unmarked : (q : ℕ) → q < w → bit (2 ^ w - 1 - mark) q ≡ 1 - bit (2 ^ i) q
  unmarked q m = bit_not mark q w mark_lt m ∙ ap (λ (x : ℕ). 1 - bit x q) a.marks ∙ ap (λ (n : ℕ). 1 - n) (bit_mod (2 ^ i) q w m)

  doubled : mark * 2 ^ 1 % 2 ^ w ≡ 2 ^ (i + 1) % 2 ^ w
  doubled =
      let two : mark * 2 ^ 1 ≡ mark + mark = omega arith in
      let next : 2 ^ i + 2 ^ i ≡ 2 ^ (i + 1) = rw (add-one, pow-suc) (omega arith) in
      ap (λ (n : ℕ). n % 2 ^ w) two ∙ ap (λ (n : ℕ). (n + n) % 2 ^ w) a.marks
      ∙ mod-add-mod (2 ^ i) (2 ^ w) (2 ^ i % 2 ^ w) ∙ add-mod-mod (2 ^ i) (2 ^ i) (2 ^ w) ∙ ap (λ (n : ℕ). n % 2 ^ w) next

  stored : get_or (set words at v) at 0 ≡ v
  stored = get_or-set_same words at v 0 (omega (arith, a.long, below))

  kept : (d : ℕ) → (at ≡ d → ⊥) → get_or (set words at v) d 0 ≡ get_or words d 0
  kept d n = get_or-set_other words at d v 0 (λ g. n (sym g))

  small' : (d : ℕ) → d < 12 → Dec (at ≡ d) → get_or (set words at v) d 0 < 2 ^ w
  small' d l (yes f) = rw (← f, stored) (and_lt w (get_or words at 0) (2 ^ w - 1 - mark) (a.small at below) (omega (arith, pow_pos w)))
  small' d l (no n) = rw (kept d n) (a.small d l)

  same_bit : (d : ℕ) → d < 12 → (q : ℕ) → q < w → (q ≡ i → ⊥) → Dec (at ≡ d) → bit (get_or (set words at v) d 0) q ≡ bit (get_or words d 0) q
  same_bit d l q m n (yes f) =
      rw (← f, stored)
      (omega (arith, bit_and_lem (get_or words at 0) (2 ^ w - 1 - mark) q, unmarked q m, bit_pow_other i q (λ g. n (sym g)), bit_lt (get_or words at 0) q))
  same_bit d l q m n (no g) = ap (λ (x : ℕ). bit x q) (kept d g)

  next_bit : (d : ℕ) → d < 12 → i < w → Dec (at ≡ d) → bit (get_or (set words at v) d 0) i ≡ bit (alone d) at
  next_bit d l m (yes f) =
      rw (← f, stored)
      (omega (arith, bit_and_lem (get_or words at 0) (2 ^ w - 1 - mark) i, unmarked i m, bit_pow_same i, alone_same at below))
  next_bit d l m (no g) =
      ap (λ (x : ℕ). bit x i) (kept d g) ∙ a.ahead d l i m (omega arith) ∙ sym (alone_other d at l below (λ h. g (sym h)))

  behind' : (d : ℕ) → d < 12 → (q : ℕ) → q < w → q < i + 1 → Dec (q ≡ i) → bit (get_or (set words at v) d 0) q ≡ bit (alone d) (theme_interval theme q).0
  behind' d l q m n (yes f) = rw f (next_bit d l (omega arith) (ℕ_discrete at d) ∙ ap (bit (alone d)) e)
  behind' d l q m n (no f) = same_bit d l q m f (ℕ_discrete at d) ∙ a.behind d l q m (omega arith)

  pub marked_more : Marked w theme (i + 1) (mark * 2 ^ 1 % 2 ^ w) (set words at v)
  marked_more =
      record {
        within = omega arith;
        long = length-set words at v ∙ a.long;
        marks = doubled;
        small = λ d l. small' d l (ℕ_discrete at d);
        behind = λ d l q m n. behind' d l q m n (ℕ_discrete q i);
        ahead = λ d l q m n. same_bit d l q m (λ f. omega arith) (ℕ_discrete at d) ∙ a.ahead d l q m (omega arith);
      }

-- ---- all of them

words_length : (w : ℕ) (theme : List ℕ) → length (interval_words w theme) ≡ 12
unfolding interval_words
words_length w theme = count_map_length (λ (d : ℕ). word w theme (alone d)) 0 12

module _ (w : ℕ) (theme : List ℕ) {words : List ℕ} (eq : words ≡ interval_words w theme) where
  pub words_at : (d : ℕ) → d < 12 → get_or words d 0 ≡ word w theme (alone d)
  unfolding interval_words
  words_at d h =
      ap (λ (ws : List ℕ). get_or ws d 0) eq
      ∙ count_map_at (λ (d : ℕ). word w theme (alone d)) 0 12 d 0 h ∙ ap (λ (d : ℕ). word w theme (alone d)) (zero-add d)

  -- with them, the word of a set by its lowest interval
  pub lowest_by_words : {set d : ℕ} → LowestInterval set d → set < highest_set → word w theme set ≡ bit_and (word w theme (bit_or set (set + 1))) (get_or words d 0)
  lowest_by_words {set} {d} low h =
      let l : d < 12 = lowest_lt low h in
      word_lowest w theme set d low l ∙ ap (bit_and (word w theme (bit_or set (set + 1)))) (sym (words_at d l))

pub marked_all : {w : ℕ} {theme : List ℕ} {i mark : ℕ} {words : List ℕ} → Marked w theme i mark words → length theme ≤ i + 1 → words ≡ interval_words w theme
marked_all {w} {theme} {i} {mark} {words} a h =
    ext_get_or 0 words (interval_words w theme) (a.long ∙ sym (words_length w theme))
    (λ d l.
    let k : d < 12 = omega (arith, a.long) in
    word_unique w theme (alone d) (get_or words d 0) (a.small d k) (λ q m n. a.behind d k q m (omega arith))
    (λ q m n. a.ahead d k q m (omega (arith, a.within)))
    ∙ sym (words_at w theme refl d k))
