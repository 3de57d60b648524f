-- What was read right is accepted by the search: the cells, the tracks and the theme. Assumes nothing.
use mathlib.Core.Path.{◌≡◌, refl, ap, ◌∙◌, subst}
use mathlib.Core.Logic.{⊎_elim}
use mathlib.Core.Bool.{Bool, true, false, cond}
use mathlib.Core.List.{List, [], ◌∷◌, ◌++◌}
use Prim.Native.Nat.{ℕ, zero, suc, ◌*◌, ◌/◌, ◌≤◌}
use native.Mathlib.Nat.{suc-mul, zero-mul, mul-div_cancel, div-add-mod'}
use native.Mathlib.Omega.{arith}
use lib.ListN.{length, take, drop, length-drop, take-append-drop}
use borrow.Author.Tests.{le-ltb}
use Rattle.theory.specs.Lists.{some}
use Rattle.score.specs.Limits.{most_tracks, most_columns, highest_pitch, rest_cell}
use Rattle.score.specs.Score.{cut, columns_in, score_of}
use Rattle.score.specs.Refusals.{bad_cell}
use Rattle.asking.specs.Limits.{most_notes}
use Rattle.asking.specs.Refusals.{bad_note}
use Rattle.asking.specs.Asking.{Accepted}
use Rattle.reading.specs.Reading.{Theme}
use Rattle.listing.specs.Texts.{Each, IsNote, IsCell, IsChord, IsTheme}

-- ---- no cell and no note is bad

cell_good : (c : ℕ) → IsCell c → bad_cell c ≡ false
cell_good c r = ⊎_elim (λ (l : c ≤ highest_pitch). rw (le-ltb highest_pitch c l)) (λ (e : c ≡ rest_cell). rw e) r

cells_good : (cells : List ℕ) → Each IsCell cells → some bad_cell cells ≡ false
cells_good [] r = refl
cells_good (c ∷ cells) r = rw (cell_good c r.0) (cells_good cells r.1)

notes_good : (notes : List ℕ) → Each IsNote notes → some bad_note notes ≡ false
notes_good [] r = refl
notes_good (p ∷ notes) r = rw (le-ltb highest_pitch p r.0) (notes_good notes r.1)

some_append : (test : ℕ → Bool) (a b : List ℕ) → some test a ≡ false → some test b ≡ false → some test (a ++ b) ≡ false
some_append test [] b e f = f
some_append test (x ∷ a) b e f = step (test x) e (some_append test a b)
  where
    step : (t : Bool) → cond t true (some test a) ≡ false → (some test a ≡ false → some test b ≡ false → some test (a ++ b) ≡ false) → cond t true (some test (a ++ b)) ≡ false
    step true k ih = k
    step false k ih = ih k f

cut_good : (n h : ℕ) (cells : List ℕ) → length cells ≡ n * h → Each (IsChord h) (cut n h cells) → some bad_cell cells ≡ false
cut_good zero h cells e r = let z : length cells ≡ 0 = omega (arith, zero-mul h) in nil cells z
  where
    nil : (l : List ℕ) → length l ≡ 0 → some bad_cell l ≡ false
    nil [] k = refl
    nil (x ∷ l) k = absurd (omega arith)
cut_good (suc n) h cells e r =
    subst (λ (l : List ℕ). some bad_cell l ≡ false) (take-append-drop h cells)
    (some_append bad_cell (take h cells) (drop h cells) (cells_good (take h cells) r.0.cells)
    (cut_good n h (drop h cells) (omega (arith, length-drop h cells, suc-mul n h)) r.1))

-- ---- accepted

module _ (n h : ℕ) (cells : List ℕ) (some-tracks : 1 ≤ h) (e : length cells ≡ n * h) where
  pub columns_are : columns_in cells h ≡ n
  columns_are = ap (λ (k : ℕ). k / h) e ∙ mul-div_cancel n (omega arith)

  pub score_is : score_of cells h ≡ cut n h cells
  score_is = ap (λ (k : ℕ). cut k h cells) columns_are

  pub accepted_of : (theme : Theme) → IsTheme theme → h ≤ most_tracks → 1 ≤ n → n ≤ most_columns → Each (IsChord h) (cut n h cells) → Accepted most_notes cells h theme.notes
  accepted_of theme t few a b r =
      record {
        tracks_some = some-tracks;
        tracks_few = few;
        columns_whole = omega (arith, div-add-mod' (length cells) h, e, ap (λ (k : ℕ). k * h) columns_are);
        columns_some = omega (arith, columns_are);
        columns_few = omega (arith, columns_are);
        cells_good = cut_good n h cells e r;
        notes_some = t.notes_some;
        notes_few = t.notes_few;
        notes_good = notes_good theme.notes t.notes;
      }
