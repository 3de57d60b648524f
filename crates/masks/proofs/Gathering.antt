-- The word of pitches, cell by cell: what is gathered, or-ed with what the cells left have, stays the same. Assumes nothing.
use mathlib.Core.Path.{◌≡◌, refl, sym, ap, ◌∙◌}
use mathlib.Core.Bool.{Bool, true, false, cond}
use mathlib.Core.List.{List, ◌∷◌}
use Prim.Native.Nat.{ℕ, ◌+◌, ◌*◌, ◌%◌, ◌^◌, ◌≤◌, ◌<◌, zero-le, max}
use native.Mathlib.Numerals.{add-one}
use native.Mathlib.Omega.{arith}
use lib.Bits.{bit_or, bit_and, or_lt, and_mask}
use lib.Dec.{eqb}
use lib.ListN.{length, get_or, drop, drop_of_length-le}
use lib.Pow.{pow-lt, pow_pos}
use lib.Seq.{drop-cons}
use borrow.Author.Tests.{le-leb, lt-leb, eqb-true, eqb-false}
use Rattle.theory.specs.Bits.{bit}
use Rattle.theory.proofs.Bits.{bit_lt, bit_high, number_unique}
use Rattle.theory.proofs.Masks.{put_same, put_other, one_shl}
use Rattle.preparing.specs.Classes.{class_set}
use Rattle.preparing.proofs.ClassSets.{present, present_lt}
use Rattle.ways.specs.declared.way.Way.TheVariants.{Exact, Octave}
use Rattle.masks.specs.Masks.{has, column_word}

-- a cell's bit in its half, as code writes it
pub bit_of : (cell : ℕ) → 1 * 2 ^ bit_and cell 63 % 2 ^ 64 ≡ 2 ^ (cell % 64)
bit_of cell = rw (and_mask cell 6) (one_shl (cell % 64) 64 (omega arith))

-- i cells are gone through, and the word has their pitches
pub record Gathering (column : List ℕ) (i word : ℕ) : Type 0 where
  pub within : i ≤ length column
  pub small : word < 2 ^ 128
  pub left : (t : ℕ) → t < 128 → max (bit word t) (present (has Exact (drop i column) t)) ≡ present (has Exact column t)

module _ (column : List ℕ) where
  pub gather_start : Gathering column 0 0
  gather_start = record { within = zero-le; small = pow_pos 128; left = λ t k. omega (arith, bit_high 0 t 0 (omega arith) zero-le) }

  module _ {i word : ℕ} (g : Gathering column i word) (h : i < length column) where
    cells_left : drop i column ≡ get_or column i 0 ∷ drop (i + 1) column
    cells_left = rw add-one (drop-cons column i 0 h)

    pub gather_rest : 127 < get_or column i 0 → Gathering column (i + 1) word
    gather_rest n =
        record { within = omega arith; small = g.small; left = λ t k. rw (cells_left, lt-leb (get_or column i 0) 127 n) at (g.left t k) }

    pub gather_pitch : get_or column i 0 ≤ 127 → Gathering column (i + 1) (bit_or word (2 ^ get_or column i 0))
    gather_pitch n =
        record {
          within = omega arith;
          small = or_lt 128 word (2 ^ get_or column i 0) g.small (pow-lt {j = 128} (omega arith));
          left = λ t k. step t (eqb (get_or column i 0) t) refl (rw (cells_left, le-leb (get_or column i 0) 127 n) at (g.left t k));
        }
      where
        step : (t : ℕ) (b : Bool) → eqb (get_or column i 0) t ≡ b
            → max (bit word t) (present (cond b true (has Exact (drop (i + 1) column) t))) ≡ present (has Exact column t)
            → max (bit (bit_or word (2 ^ get_or column i 0)) t) (present (has Exact (drop (i + 1) column) t)) ≡ present (has Exact column t)
        step t true e k =
            let b : bit (bit_or word (2 ^ get_or column i 0)) t ≡ 1 =
            ap (bit (bit_or word (2 ^ get_or column i 0))) (sym (eqb-true (get_or column i 0) t e)) ∙ put_same word (get_or column i 0) in
            omega (arith, bit_lt word t, present_lt (has Exact (drop (i + 1) column) t))
        step t false e k = rw (put_other word (get_or column i 0) t (eqb-false (get_or column i 0) t e)) k

  pub gather_end : {i word : ℕ} → Gathering column i word → length column ≤ i → word ≡ column_word Exact column
  unfolding column_word
  gather_end {i} {word} g h =
      number_unique 128 (λ t. present (has Exact column t)) (λ t. present_lt (has Exact column t)) word g.small
      (λ t k. let e = rw (drop_of_length-le column h) at (g.left t k) in omega (arith, e))

-- the classes of a column are its word in octave
pub class_word : (column : List ℕ) → class_set column ≡ column_word Octave column
unfolding class_set column_word
class_word column = refl
