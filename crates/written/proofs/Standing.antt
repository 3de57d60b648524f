-- Where the theme stands: each of its notes is among the cells of its column (`stands_each`, `each_stands`), and that is where
-- the words of the columns have zeros on a diagonal (`diagonal_stands`). So the register's bit m - 1 says it. Assumes nothing.
use mathlib.Core.Path.{◌≡◌, refl, sym, ap, ◌∙◌}
use mathlib.Core.Bool.{Bool, true, false, cond, false≢true}
use mathlib.Core.Logic.{◌↔◌}
use mathlib.Core.List.{List, [], ◌∷◌}
use Prim.Native.Nat.{ℕ, zero, suc, ◌+◌, ◌-◌, ◌*◌, ◌≤◌, ◌<◌}
use native.Mathlib.Nat.{not-suc-le-zero, le_of_suc-le-suc}
use native.Mathlib.Omega.{arith}
use lib.Dec.{leb, eqb}
use lib.ListN.{length, get_or, take, drop}
use lib.Seq.{get_or-drop}
use borrow.Author.Tests.{leb-false, ne_eqb}
use Rattle.theory.specs.Lists.{some}
use Rattle.theory.specs.Bits.{bit}
use Rattle.theory.proofs.Either.{either}
use Rattle.theory.proofs.Register.{Diagonal}
use Rattle.score.specs.Limits.{highest_pitch}
use Rattle.score.specs.Score.{column_at, columns_in, score_of, columns_from}
use Rattle.score.proofs.Columns.{cut_at}
use Rattle.written.specs.Written.{has, sounds, stands_at}
use Rattle.written.specs.Words.{word_at}
use Rattle.written.proofs.Cells.{cells_bit}

-- a pitch that the column has is one of its cells
pub has_cells : (column : List ℕ) (p : ℕ) → p ≤ highest_pitch → has column p ≡ some (λ c. eqb c p) column
has_cells [] p h = refl
has_cells (c ∷ column) p h =
    either (leb c highest_pitch) (λ e. rw (e, has_cells column p h))
    (λ e. rw (e, has_cells column p h, ne_eqb c p (λ same. omega (arith, leb-false c highest_pitch e, same))))

-- ---- each note by itself

abbrev pub Each : (notes : List ℕ) (columns : List (List ℕ)) → Type 0
Each notes columns = (i : ℕ) → i < length notes → has (get_or columns i []) (get_or notes i 0) ≡ true

next_column : (columns : List (List ℕ)) (i : ℕ) → get_or (drop 1 columns) i [] ≡ get_or columns (suc i) []
next_column [] i = refl
next_column (c ∷ columns) i = refl

pub sounds_each : (notes : List ℕ) (columns : List (List ℕ)) → sounds notes columns ≡ true → Each notes columns
sounds_each [] columns e i h = absurd (not-suc-le-zero h)
sounds_each (p ∷ notes) columns e i h = step (has (get_or columns 0 []) p) refl e i h (sounds_each notes (drop 1 columns))
  where
    step : (b : Bool) → has (get_or columns 0 []) p ≡ b → cond b (sounds notes (drop 1 columns)) false ≡ true → (i : ℕ) → i < suc (length notes)
        → (sounds notes (drop 1 columns) ≡ true → Each notes (drop 1 columns)) → has (get_or columns i []) (get_or (p ∷ notes) i 0) ≡ true
    step true first e zero h ih = first
    step true first e (suc i) h ih = ap (λ (c : List ℕ). has c (get_or notes i 0)) (sym (next_column columns i)) ∙ ih e i (le_of_suc-le-suc h)
    step false first e i h ih = absurd (false≢true e)

pub each_sounds : (notes : List ℕ) (columns : List (List ℕ)) → Each notes columns → sounds notes columns ≡ true
each_sounds [] columns f = refl
each_sounds (p ∷ notes) columns f =
    rw (f 0 (omega arith))
    (each_sounds notes (drop 1 columns) (λ i h. ap (λ (c : List ℕ). has c (get_or notes i 0)) (next_column columns i) ∙ f (suc i) (omega arith)))

module _ (score : List (List ℕ)) (theme : List ℕ) (j : ℕ) where
  pub stands_each : stands_at score theme j ≡ true → Each theme (columns_from score (column_at j))
  unfolding stands_at
  stands_each e = sounds_each theme (columns_from score (column_at j)) e

  pub each_stands : Each theme (columns_from score (column_at j)) → stands_at score theme j ≡ true
  unfolding stands_at
  each_stands f = each_sounds theme (columns_from score (column_at j)) f

-- ---- the words of the columns

module _ (w : ℕ) (cells : List ℕ) (h : ℕ) (theme : List ℕ) (notes : 1 ≤ length theme) (few : length theme ≤ w)
    (sung : (i : ℕ) → get_or theme i 0 ≤ highest_pitch) (s : ℕ) (room : s + length theme ≤ columns_in cells h) where
  -- bit i of the word of column s + i is 0 exactly where that column has note i + 1
  at_note : (i : ℕ) → i < length theme
      → bit (word_at w cells h theme (s + i)) i ≡ cond (has (get_or (columns_from (score_of cells h) (column_at (s + 1))) i []) (get_or theme i 0)) 0 1
  at_note i l =
      let z : s + 1 - 1 ≡ s = omega arith in
      rw (z, get_or-drop s (score_of cells h) i [], cut_at (columns_in cells h) h cells (s + i) (omega arith), has_cells (take h (drop ((s + i) * h) cells)) (get_or theme i 0) (sung i))
      (cells_bit w theme (take h (drop ((s + i) * h) cells)) i (omega arith) l)

  pub diagonal_stands : Diagonal (word_at w cells h theme) s (length theme - 1) ↔ (stands_at (score_of cells h) theme (s + 1) ≡ true)
  diagonal_stands = (
    λ d. each_stands (score_of cells h) theme (s + 1) (λ i l. zero_true _ _ (at_note i l) (d i (omega arith))),
    λ e i l. at_note i (omega arith) ∙ rw (stands_each (score_of cells h) theme (s + 1) e i (omega arith)),
  )
    where
      zero_true : (b : Bool) (n : ℕ) → n ≡ cond b 0 1 → n ≡ 0 → b ≡ true
      zero_true true n e z = refl
      zero_true false n e z = absurd (omega arith)
