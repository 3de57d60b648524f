-- A score: a run of cells, column after column, h cells a column, one per track. A cell 0 to 127 is a pitch, 255 a rest.
-- The definitions that matter are `pitches`, what a pitch of a column is, `note`, what a note of a theme is, and `onward`, where
-- the notes of a theme are sought. Assumes nothing.
use Rattle.std.specs.Prelude.{Bool, cond, not, List, [], ◌∷◌, ℕ, zero, suc, ◌-◌, ◌/◌, leb, length, get_or, take, drop}
use Rattle.theory.specs.Lists.{some}
use Rattle.theory.specs.Pages.{hits}
use Rattle.score.specs.declared.quantities.Pitch.{Pitch}
use Rattle.score.specs.declared.quantities.Column.{Column}
use Rattle.score.specs.Limits.{highest_pitch}

-- a number as a pitch, and as the number of a column
abbrev pub pitch : ℕ → Pitch
pitch t = record { 0 = t }

abbrev pub column_at : ℕ → Column
column_at k = record { 0 = k }

-- n columns of h cells
abbrev pub cut : (n h : ℕ) → List ℕ → List (List ℕ)
cut zero h cells = []
cut (suc n) h cells = take h cells ∷ cut n h (drop h cells)

-- how many columns the cells make; of no tracks, none
abbrev pub columns_in : (cells : List ℕ) (h : ℕ) → ℕ
columns_in cells h = length cells / h

-- the score of the cells: its columns in order, each with its cells by track
abbrev pub score_of : (cells : List ℕ) (h : ℕ) → List (List ℕ)
score_of cells h = cut (columns_in cells h) h cells

-- the cells of column k; columns are numbered from 1 (there is no column 0, and nothing asks for it)
abbrev pub column : (score : List (List ℕ)) → Column → List ℕ
column score k = get_or score (k.0 - 1) []

-- the pitches of a column: its cells 0 to 127. A rest is none, so a column of rests only holds no pitch. A pitch may stand
-- twice; whoever asks of this list asks whether some pitch is in it, so equal pitches count once
abbrev pub pitches : (column : List ℕ) → List Pitch
pitches [] = []
pitches (cell ∷ cells) = cond (leb cell highest_pitch) (pitch cell ∷ pitches cells) (pitches cells)

-- ---- columns with a pitch

-- some cell of the column is a pitch. A column of rests only is empty
abbrev pub heard : (column : List ℕ) → Bool
heard column = some (λ cell. leb cell highest_pitch) column

-- some column is empty
abbrev pub has_empty : (score : List (List ℕ)) → Bool
has_empty score = some (λ column. not (heard column)) score

-- the columns with a pitch, in order: the score without its empty columns
abbrev pub heard_of : (score : List (List ℕ)) → List (List ℕ)
heard_of score = hits heard score

-- the numbers of those columns, where the first column of the score has the number j
abbrev pub heard_from : (j : ℕ) (score : List (List ℕ)) → List ℕ
heard_from j [] = []
heard_from j (c ∷ score) = cond (heard c) (j ∷ heard_from (suc j) score) (heard_from (suc j) score)

-- the number in the score of its i-th column with a pitch, from 1
abbrev pub number_of : (score : List (List ℕ)) → ℕ → ℕ
number_of score i = get_or (heard_from 1 score) (i - 1) 0

-- which of the columns with a pitch column j is, from 1: how many there are up to it
abbrev pub rank_of : (score : List (List ℕ)) → Column → ℕ
rank_of score j = length (heard_of (take j.0 score))

-- the columns from column j on
abbrev pub columns_from : (score : List (List ℕ)) → Column → List (List ℕ)
columns_from score j = drop (j.0 - 1) score

-- the columns with a pitch from column j on: the i-th of them is where the i-th note of a theme at column j is sought
abbrev pub onward : (score : List (List ℕ)) → Column → List (List ℕ)
onward score j = heard_of (columns_from score j)

-- a theme is a run of pitches: its i-th note, from 1
abbrev pub note : (theme : List ℕ) → ℕ → Pitch
note theme i = pitch (get_or theme (i - 1) 0)
