-- A start that is a hit holds every note, and the other way round: the notes are all held one after the other
-- (`follows`) exactly where each is held at its own place. By the notes that are left. Assumes nothing.
use mathlib.Core.Path.{◌≡◌, refl, sym, ap, ◌∙◌}
use mathlib.Core.Bool.{Bool, true, false, cond, false≢true}
use mathlib.Core.List.{List, [], ◌∷◌}
use Prim.Native.Nat.{ℕ, zero, suc, ◌-◌, ◌<◌}
use native.Mathlib.Nat.{not-suc-le-zero, le_of_suc-le-suc, add-zero}
use native.Mathlib.Omega.{arith}
use lib.ListN.{length, get_or, drop}
use lib.Seq.{get_or-drop}
use Rattle.score.specs.Score.{pitch, column_at, columns_from}
use Rattle.ways.specs.declared.way.Way.{Way}
use Rattle.ways.specs.Way.{holds}
use Rattle.score.specs.Score.{note}
use Rattle.walking.specs.Starts.{Place, follows, hit}

next_column : (columns : List (List ℕ)) (i : ℕ) → get_or (drop 1 columns) i [] ≡ get_or columns (suc i) []
next_column [] i = refl
next_column (c ∷ columns) i = refl

module _ (way : Way) (code : ℕ) where
  -- the i-th note is held in the i-th column, each from 0
  abbrev pub Each : (notes : List ℕ) (columns : List (List ℕ)) → Type 0
  Each notes columns = (i : ℕ) → i < length notes → holds way code (pitch (get_or notes i 0)) (get_or columns i []) ≡ true

  pub follows_each : (notes : List ℕ) (columns : List (List ℕ)) → follows way code notes columns ≡ true → Each notes columns
  follows_each [] columns e i h = absurd (not-suc-le-zero h)
  follows_each (p ∷ notes) columns e i h = step (holds way code (pitch p) (get_or columns 0 [])) refl e i h (follows_each notes (drop 1 columns))
    where
      step : (b : Bool) → holds way code (pitch p) (get_or columns 0 []) ≡ b → cond b (follows way code notes (drop 1 columns)) false ≡ true
          → (i : ℕ) → i < suc (length notes) → (follows way code notes (drop 1 columns) ≡ true → Each notes (drop 1 columns))
          → holds way code (pitch (get_or (p ∷ notes) i 0)) (get_or columns i []) ≡ true
      step true first e zero h ih = first
      step true first e (suc i) h ih = ap (holds way code (pitch (get_or notes i 0))) (sym (next_column columns i)) ∙ ih e i (le_of_suc-le-suc h)
      step false first e i h ih = absurd (false≢true e)

  pub each_follows : (notes : List ℕ) (columns : List (List ℕ)) → Each notes columns → follows way code notes columns ≡ true
  each_follows [] columns f = refl
  each_follows (p ∷ notes) columns f =
      rw (f 0 (omega arith))
      (each_follows notes (drop 1 columns) (λ i h. ap (holds way code (pitch (get_or notes i 0))) (next_column columns i) ∙ f (suc i) (omega arith)))

  -- the first note, and those from the second on
  with_first : (theme : List ℕ) (columns : List (List ℕ)) → holds way code (note theme 1) (get_or columns 0 []) ≡ true
      → follows way code (drop 1 theme) (drop 1 columns) ≡ true → Each theme columns
  with_first [] columns first e i h = absurd (not-suc-le-zero h)
  with_first (p ∷ notes) columns first e i h = follows_each (p ∷ notes) columns (rw first e) i h

  without_first : (theme : List ℕ) (columns : List (List ℕ)) → Each theme columns → follows way code (drop 1 theme) (drop 1 columns) ≡ true
  without_first [] columns f = refl
  without_first (p ∷ notes) columns f = let e : follows way code (p ∷ notes) columns ≡ true = each_follows (p ∷ notes) columns f in rw (f 0 (omega arith)) at e

-- ---- a hit

module _ (way : Way) (score : List (List ℕ)) (theme : List ℕ) (s : Place) where
  pub hit_each : holds way s.code (note theme 1) (get_or score (s.column - 1) []) ≡ true → hit way score theme s ≡ true
      → Each way s.code theme (columns_from score (column_at s.column))
  unfolding hit
  hit_each first e =
      with_first way s.code theme (columns_from score (column_at s.column)) (rw (get_or-drop (s.column - 1) score 0 [], add-zero) first) e

  pub each_hit : Each way s.code theme (columns_from score (column_at s.column)) → hit way score theme s ≡ true
  unfolding hit
  each_hit f = without_first way s.code theme (columns_from score (column_at s.column)) f
