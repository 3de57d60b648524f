-- Starts and looks. A start is a (j, c) whose first note is present; trying one looks for the notes from the second to the
-- first that is missing, or to the last. The definitions that matter are `starts`, `hit` and `looks`. Assumes nothing.
use Rattle.std.specs.Prelude.{Bool, true, false, cond, List, [], ◌∷◌, ◌++◌, map, ℕ, suc, ◌+◌, ◌*◌, ◌-◌, leb, length, get_or, drop}
use Rattle.theory.specs.Lists.{count}
use Rattle.theory.specs.Pages.{hits}
use Rattle.score.specs.declared.quantities.Pitch.{Pitch}
use Rattle.score.specs.Score.{pitch, column_at, columns_from}
use Rattle.ways.specs.declared.way.Way.{Way}
use Rattle.ways.specs.Way.{span, holds}
use Rattle.score.specs.Score.{note}

-- a (j, c) with the shift's code for c
pub record Place : Type 0 where
  pub column : ℕ
  pub code : ℕ

abbrev pub place : ℕ → ℕ → Place
place j code = record { column = j; code = code }

-- places are ordered by column and then by shift. One number says it, since a bookmark's code is at most 255
abbrev pub key : Place → ℕ
key s = s.column * 256 + s.code

-- the codes, from x on, at which the column holds the note p
abbrev pub codes : Way → Pitch → (column : List ℕ) → (x : ℕ) → List ℕ
codes way p column x = hits (λ code. holds way code p column) (count x (span way - x))

-- the starts of the columns, of which the first is column j: where a theme of m notes that begins with p still has room
abbrev pub starts_in : Way → Pitch → (m j : ℕ) → (columns : List (List ℕ)) → List Place
starts_in way p m j [] = []
starts_in way p m j (c ∷ columns) = cond (leb m (suc (length columns))) (map (place j) (codes way p c 0)) [] ++ starts_in way p m (suc j) columns

abbrev pub starts : Way → (score : List (List ℕ)) (theme : List ℕ) → List Place
starts way score theme = starts_in way (note theme 1) (length theme) 1 score

-- the notes are all there, each in the next column
abbrev pub follows : Way → (code : ℕ) → (notes : List ℕ) → (columns : List (List ℕ)) → Bool
follows way code [] columns = true
follows way code (p ∷ notes) columns = cond (holds way code (pitch p) (get_or columns 0 [])) (follows way code notes (drop 1 columns)) false

-- a look for each note up to the first that is missing, or to the last
abbrev pub looked : Way → (code : ℕ) → (notes : List ℕ) → (columns : List (List ℕ)) → ℕ
looked way code [] columns = 0
looked way code (p ∷ notes) columns = suc (cond (holds way code (pitch p) (get_or columns 0 [])) (looked way code notes (drop 1 columns)) 0)

module _ (way : Way) (score : List (List ℕ)) (theme : List ℕ) where
  -- a start is a hit where the notes from the second on follow, and costs its looks
  unfoldable pub hit : Place → Bool
  hit s = follows way s.code (drop 1 theme) (drop 1 (columns_from score (column_at s.column)))

  unfoldable pub looks : Place → ℕ
  looks s = looked way s.code (drop 1 theme) (drop 1 (columns_from score (column_at s.column)))
