-- A table that is filled from its last entry downward: the entries from some place on are right (`RightFrom`). Of any
-- entries, and then of the theme's table. Assumes nothing.
use Rattle.std.proofs.Common.{◌≡◌, ℕ, ◌+◌, ◌-◌, ◌*◌, ◌%◌, ◌^◌, ◌<◌, ◌≤◌, List, map, length, get_or, set, sym, refl, ap, ◌∙◌, zero-add, arith, length-set, get_or-set_other, get_or-set_same, ext_get_or}
use native.Mathlib.Decide.{ℕ_discrete}
use lib.Bits.{bit_and, bit_or, or_lt, or_add_and, and_le_l}
use Rattle.theory.specs.Lists.{count}
use Rattle.theory.proofs.Lists.{count_map_length, count_map_at}
use Rattle.score.specs.Limits.{table_words, highest_set}
use Rattle.filter.specs.Table.{word}
use Rattle.filter.specs.LowestInterval.{interval_words, LowestInterval}
use Rattle.filter.proofs.LowestInterval.{even_lowest, even_without, lowest_lt, word_none}
use Rattle.filter.proofs.table.IntervalWords.{words_at, lowest_by_words}

pub record RightFrom (entry : ℕ → ℕ) (table : List ℕ) (from : ℕ) : Type 0 where
  pub within : from < table_words
  pub long : length table ≡ table_words
  pub each : (s : ℕ) → from ≤ s → s < table_words → get_or table s 0 ≡ entry s

pub right_last : {entry : ℕ → ℕ} (table : List ℕ) (x : ℕ) → length table ≡ table_words → x ≡ entry highest_set
    → RightFrom entry (set table highest_set x) highest_set
right_last {entry} table x l e =
    record {
      within = omega arith;
      long = length-set table highest_set x ∙ l;
      each = λ s a b. let n : s ≡ highest_set = omega arith in rw n (get_or-set_same table highest_set x 0 (omega (arith, l)) ∙ e);
    }

-- an entry more
module _ {entry : ℕ → ℕ} {table : List ℕ} {from : ℕ} (k : ℕ) (f : RightFrom entry table from) (n : k + 1 ≡ from) where
  pub right_more : (x : ℕ) → x ≡ entry k → RightFrom entry (set table k x) k
  right_more x e =
      record {
        within = omega (arith, f.within);
        long = length-set table k x ∙ f.long;
        each = λ s a b. pick s a b (ℕ_discrete s k);
      }
    where
      pick : (s : ℕ) → k ≤ s → s < table_words → Dec (s ≡ k) → get_or (set table k x) s 0 ≡ entry s
      pick s a b (yes y) = rw y (get_or-set_same table k x 0 (omega (arith, f.within, f.long)) ∙ e)
      pick s a b (no y) = get_or-set_other table k s x 0 y ∙ f.each s (omega arith) b

  -- what it comes from is there
  pub source_within : bit_or k (k + 1) < table_words
  source_within = or_lt 12 k (k + 1) (omega (arith, f.within)) (omega (arith, f.within))

  source_there : from ≤ bit_or k (k + 1)
  source_there = omega (arith, or_add_and k (k + 1), and_le_l k (k + 1))

  pub source_right : get_or table (bit_or k (k + 1)) 0 ≡ entry (bit_or k (k + 1))
  source_right = f.each (bit_or k (k + 1)) source_there source_within

pub right_all : {entry : ℕ → ℕ} {table : List ℕ} {from : ℕ} → RightFrom entry table from → from ≡ 0 → table ≡ map entry (count 0 table_words)
right_all {entry} {table} {from} f z =
    ext_get_or 0 table (map entry (count 0 table_words)) (f.long ∙ sym (count_map_length entry 0 table_words))
    (λ s l.
    let k : s < table_words = omega (arith, f.long) in
    f.each s (omega arith) k ∙ sym (count_map_at entry 0 table_words s 0 k ∙ ap entry (zero-add s)))

-- ---- the theme's table: an odd entry and the even one before it, by half of that

module _ (w : ℕ) (theme : List ℕ) {words : List ℕ} (e : words ≡ interval_words w theme) where
  pub pairs_first : (table : List ℕ) → length table ≡ table_words
      → RightFrom (word w theme) (set (set table highest_set (2 ^ w - 1)) (highest_set - 1) (get_or words 0 0)) (highest_set - 1)
  pairs_first table l =
      right_more (highest_set - 1) (right_last table (2 ^ w - 1) l (word_none w theme)) refl (get_or words 0 0) (words_at w theme e 0 (omega arith))

  module _ {table : List ℕ} {half : ℕ} (f : RightFrom (word w theme) table (2 * half)) (h : 0 < half) where
    abbrev even : ℕ
    even = 2 * (half - 1)

    abbrev odd : ℕ
    odd = even + 1

    next : odd + 1 ≡ 2 * half
    next = omega arith

    pub odd_source : bit_or odd (odd + 1) < table_words
    odd_source = source_within odd f next

    module _ {d : ℕ} (low : LowestInterval odd d) where
      pub odd_lowest_lt : d < 12
      odd_lowest_lt = lowest_lt low (omega (arith, f.within, next))

      abbrev v : ℕ
      v = bit_and (get_or table (bit_or odd (odd + 1)) 0) (get_or words d 0)

      abbrev x : ℕ
      x = bit_and (get_or (set table odd v) odd 0) (get_or words 0 0)

      is_even : even % 2 ≡ 0
      is_even = omega arith

      odd_right : RightFrom (word w theme) (set table odd v) odd
      odd_right =
          right_more odd f next v
          (ap (λ (z : ℕ). bit_and z (get_or words d 0)) (source_right odd f next)
          ∙ sym (lowest_by_words w theme e low (omega (arith, f.within, next))))

      even_right : x ≡ word w theme even
      even_right =
          ap (λ (z : ℕ). bit_and z (get_or words 0 0)) (odd_right.each odd (omega arith) odd_right.within)
          ∙ ap (λ (z : ℕ). bit_and (word w theme z) (get_or words 0 0)) (sym (even_without even is_even))
          ∙ sym (lowest_by_words w theme e (even_lowest even is_even) (omega (arith, odd_right.within)))

      pub pairs_more : RightFrom (word w theme) (set (set table odd v) even x) even
      pairs_more = right_more even odd_right refl x even_right
