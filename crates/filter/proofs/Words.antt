-- The theme table: 4,096 words of w bits, and the bits of each. Bit i of the word for a set is the set's bit for interval
-- i of the theme (`word_in`), and 1 past the theme's intervals (`word_out`). What filling leaves: `after_filled`. Assumes nothing.
use Rattle.std.proofs.Common.{◌≡◌, ℕ, ◌+◌, ◌^◌, ◌<◌, ◌≤◌, Bool, true, false, cond, eqb, leb, List, length, get_or, sym, refl, ap, ◌∙◌, zero-add, arith, eq-eqb, ne_eqb, le-leb}
use native.Mathlib.Decide.{dec_le}
use borrow.Author.Tests.{lt-leb}
use Rattle.theory.specs.Bits.{bit}
use Rattle.theory.proofs.Bits.{bit_lt, bit_number, number_lt, bit_ext}
use Rattle.theory.proofs.Lists.{count_map_length, count_map_at}
use Rattle.score.specs.Limits.{table_words}
use Rattle.filter.specs.Table.{theme_interval, word, theme_table, table_after}

module _ (w : ℕ) (theme : List ℕ) where
  -- the bits as they are given
  abbrev word_bit : (set i : ℕ) → ℕ
  word_bit set i = cond (leb (i + 2) (length theme)) (bit set (theme_interval theme i).0) 1

  word_bit_lt : (set i : ℕ) → word_bit set i < 2
  word_bit_lt set i = step (leb (i + 2) (length theme))
    where
      step : (b : Bool) → cond b (bit set (theme_interval theme i).0) 1 < 2
      step true = bit_lt set (theme_interval theme i).0
      step false = omega arith

  word_bit_lem : (set i : ℕ) → i < w → bit (word w theme set) i ≡ word_bit set i
  unfolding word
  word_bit_lem set i h = bit_number w (word_bit set) (word_bit_lt set) i h

  pub word_in : (set i : ℕ) → i < w → i + 2 ≤ length theme → bit (word w theme set) i ≡ bit set (theme_interval theme i).0
  word_in set i h k = word_bit_lem set i h ∙ ap (λ (b : Bool). cond b (bit set (theme_interval theme i).0) 1) (le-leb (i + 2) (length theme) k)

  pub word_out : (set i : ℕ) → i < w → length theme < i + 2 → bit (word w theme set) i ≡ 1
  word_out set i h k = word_bit_lem set i h ∙ ap (λ (b : Bool). cond b (bit set (theme_interval theme i).0) 1) (lt-leb (i + 2) (length theme) k)

  pub word_lt : (set : ℕ) → word w theme set < 2 ^ w
  unfolding word
  word_lt set = number_lt w (word_bit set) (word_bit_lt set)

  -- no other number of w bits has these bits
  pub word_unique : (set x : ℕ) → x < 2 ^ w → ((i : ℕ) → i < w → i + 2 ≤ length theme → bit x i ≡ bit set (theme_interval theme i).0)
      → ((i : ℕ) → i < w → length theme < i + 2 → bit x i ≡ 1) → x ≡ word w theme set
  word_unique set x h inside outside = bit_ext w x (word w theme set) h (word_lt set) (λ i k. pick i k (dec_le (i + 2) (length theme)))
    where
      pick : (i : ℕ) → i < w → Dec (i + 2 ≤ length theme) → bit x i ≡ bit (word w theme set) i
      pick i k (yes l) = inside i k l ∙ sym (word_in set i k l)
      pick i k (no l) = let g : length theme < i + 2 = omega arith in outside i k g ∙ sym (word_out set i k g)

  -- ---- the table

  pub table_length : length (theme_table w theme) ≡ table_words
  unfolding theme_table
  table_length = count_map_length (word w theme) 0 table_words

  pub table_at : (set : ℕ) → set < table_words → get_or (theme_table w theme) set 0 ≡ word w theme set
  unfolding theme_table
  table_at set h = count_map_at (word w theme) 0 table_words set 0 h ∙ ap (word w theme) (zero-add set)

  -- ---- a lent table that was filled

  pub after_none : (table : List ℕ) → length theme ≡ 0 → table_after w theme table ≡ table
  after_none table e = rw (eq-eqb (length theme) 0 e)

  pub after_other : (table : List ℕ) → (length table ≡ table_words → ⊥) → table_after w theme table ≡ table
  after_other table n = pick (eqb (length theme) 0)
    where
      pick : (b : Bool) → cond b table (cond (eqb (length table) table_words) (theme_table w theme) table) ≡ table
      pick true = refl
      pick false = rw (ne_eqb (length table) table_words n)

  pub after_filled : (table : List ℕ) → (length theme ≡ 0 → ⊥) → length table ≡ table_words → table_after w theme table ≡ theme_table w theme
  after_filled table n e = rw (ne_eqb (length theme) 0 n, eq-eqb (length table) table_words e)
