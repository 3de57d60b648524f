-- The walk along the starts, for the contracts of inner functions: what is asked of them, the next code of a column, what
-- trying a column writes, what a whole walk writes. No public call promises any of this by itself. Assumes nothing.
use Rattle.std.specs.Prelude.{◌≡◌, Bool, cond, List, [], ◌∷◌, ◌++◌, map, ℕ, ◌+◌, ◌-◌, ◌*◌, ◌^◌, ◌≤◌, ◌<◌, eqb, ℤ, length, get_or}
use Rattle.std.proofs.lemmas.List.Edits.{sets as stored}
use Rattle.theory.specs.Lists.{over}
use Rattle.theory.specs.Pages.{page_hits, page_looks, from}
use Rattle.score.specs.declared.quantities.Column.{Column}
use Rattle.score.specs.Score.{column_at, column, columns_in, score_of}
use Rattle.score.specs.Limits.{most_tracks, most_columns, highest_pitch}
use Rattle.ways.specs.declared.way.Way.{Way}
use Rattle.ways.specs.declared.bookmark.Bookmark.{Bookmark}
use Rattle.ways.specs.Way.{span}
use Rattle.ways.specs.Codes.{code_given}
use Rattle.ways.specs.Bookmarks.{key_of}
use Rattle.asking.specs.Limits.{most_notes}
use Rattle.filter.specs.Limits.{word_bits}
use Rattle.score.specs.Score.{note}
use Rattle.walking.specs.declared.walked.Spot.{Spot}
use Rattle.walking.specs.declared.walked.Walked.{Walked}
use Rattle.walking.specs.Starts.{Place, place, key, codes, starts, hit, looks}
use Rattle.walking.specs.Candidates.{quick_starts}
use Rattle.walking.specs.Found.{columns_of, shifts_of}

-- an accepted score and theme, as far as a walk rests on it
pub record Ready (cells : List ℕ) (h : ℕ) (theme : List ℕ) : Type 0 where
  pub tracks : 1 ≤ h
  pub tracks_most : h ≤ most_tracks
  pub whole : columns_in cells h * h ≡ length cells
  pub columns_most : columns_in cells h ≤ most_columns
  pub notes : 2 ≤ length theme
  pub notes_most : length theme ≤ most_notes
  pub sung : (i : ℕ) → get_or theme i 0 ≤ highest_pitch

-- a theme of m notes fits from column j on, in n columns
pub record Fits (n m j : ℕ) : Type 0 where
  pub from_first : 1 ≤ j
  pub to_last : j + m ≤ n + 1

-- the first column from which on the theme has no more room
abbrev pub end_of : (cells : List ℕ) (h : ℕ) (theme : List ℕ) → ℕ
end_of cells h theme = columns_in cells h + 2 - length theme

-- how many columns are listed at a time at most
abbrev pub listed : ℕ
listed = 64

-- what trying a start finds
pub record Trial (way : Way) (score : List (List ℕ)) (theme : List ℕ) (j code : ℕ) (found : Bool) (spent : ℕ) : Type 0 where
  pub hits : found ≡ hit way score theme (place j code)
  pub costs : spent ≡ looks way score theme (place j code)

-- the starts of column j from code x on
abbrev pub column_starts : Way → (score : List (List ℕ)) (theme : List ℕ) (j x : ℕ) → List Place
column_starts way score theme j x = map (place j) (codes way (note theme 1) (column score (column_at j)) x)

-- the spot at which a walk from a bookmark begins, and the one at the first code of a column
abbrev pub begun : Way → Bookmark → Spot
begun way b = record { column = b.column; code = code_given way b.shift; found = 0 }

abbrev pub gone_on : (j found : ℕ) → Spot
gone_on j found = record { column = column_at j; code = 0; found = found }

-- the spot on column k where so many are found: the code of the spot before counts on its own column only
abbrev pub at_column : Spot → Column → (found : ℕ) → Spot
at_column spot k found = record { column = k; code = cond (eqb spot.column.0 k.0) spot.code 0; found = found }

-- the starts of the listed columns, one after another: on column j from code x on, on any other all
abbrev pub list_starts : Way → (score : List (List ℕ)) (theme : List ℕ) (j x : ℕ) (list : List ℕ) → List Place
list_starts way score theme j x [] = []
list_starts way score theme j x (k ∷ list) = column_starts way score theme k (cond (eqb j k) x 0) ++ list_starts way score theme j x list

-- ---- what trying starts leaves in the buffers

-- what trying the starts leaves in buffers of which `found` places are taken: the hits that still have room, behind those
pub record Tries (way : Way) (score : List (List ℕ)) (theme : List ℕ) (tried : List Place) (found : ℕ) (columns : List ℕ) (shifts : List ℤ)
    (found' spent : ℕ) (columns' : List ℕ) (shifts' : List ℤ) : Type 0 where
  pub count : found' ≡ found + length (page_hits (hit way score theme) (length columns - found) tried)
  pub costs : spent ≡ page_looks (hit way score theme) (looks way score theme) (length columns - found) tried
  pub in_columns : columns' ≡ stored columns found (columns_of (page_hits (hit way score theme) (length columns - found) tried))
  pub in_shifts : shifts' ≡ stored shifts found (shifts_of way (page_hits (hit way score theme) (length columns - found) tried))

-- the starts that stand at a spot
abbrev pub TriesColumn : Way → (cells : List ℕ) (h : ℕ) (theme : List ℕ) → Spot → (columns : List ℕ) (shifts : List ℤ)
    → Walked → (columns' : List ℕ) (shifts' : List ℤ) → Type 0
TriesColumn way cells h theme spot columns shifts w columns' shifts' =
    Tries way (score_of cells h) theme (column_starts way (score_of cells h) theme spot.column.0 spot.code) spot.found columns shifts
    w.found w.looks columns' shifts'

-- what that asks for: a theme of m notes has room in the spot's column, of n, and the buffers have so many places
pub record Stands (way : Way) (n m : ℕ) (spot : Spot) (columns : List ℕ) (shifts : List ℤ) : Type 0 where
  pub fits : Fits n m spot.column.0
  pub low : spot.code ≤ span way
  pub room : spot.found ≤ length columns
  pub same_room : length shifts ≡ length columns

-- the starts of the listed columns
abbrev pub TriesList : Way → (cells : List ℕ) (h : ℕ) (theme : List ℕ) → Spot → (list columns : List ℕ) (shifts : List ℤ)
    → Walked → (columns' : List ℕ) (shifts' : List ℤ) → Type 0
TriesList way cells h theme spot list columns shifts w columns' shifts' =
    Tries way (score_of cells h) theme (list_starts way (score_of cells h) theme spot.column.0 spot.code list) spot.found columns shifts
    w.found w.looks columns' shifts'

-- what that asks for: the theme has room in each column, and all looks together are a number of 32 bits
pub record Along (way : Way) (cells : List ℕ) (h : ℕ) (theme : List ℕ) (spot : Spot) (list columns : List ℕ) (shifts : List ℤ) : Type 0 where
  pub fits : (i : ℕ) → i < length list → Fits (columns_in cells h) (length theme) (get_or list i 0)
  pub low : spot.code ≤ span way
  pub room : spot.found ≤ length columns
  pub same_room : length shifts ≡ length columns
  pub few : page_looks (hit way (score_of cells h) theme) (looks way (score_of cells h) theme) (length columns - spot.found)
      (list_starts way (score_of cells h) theme spot.column.0 spot.code list) < 2 ^ 32

-- what a walk along the starts leaves in the buffers: the page of those starts
pub record Walks (way : Way) (score : List (List ℕ)) (theme : List ℕ) (walked : List Place) (columns : List ℕ) (shifts : List ℤ)
    (found spent : ℕ) (columns' : List ℕ) (shifts' : List ℤ) : Type 0 where
  pub count : found ≡ length (page_hits (hit way score theme) (length columns) walked)
  pub costs : spent ≡ page_looks (hit way score theme) (looks way score theme) (length columns) walked
  pub in_columns : columns' ≡ over columns (columns_of (page_hits (hit way score theme) (length columns) walked))
  pub in_shifts : shifts' ≡ over shifts (shifts_of way (page_hits (hit way score theme) (length columns) walked))

-- from a bookmark on, along every start, or along those at candidates
abbrev pub WalksEvery : Way → (cells : List ℕ) (h : ℕ) (theme : List ℕ) → Bookmark → (columns : List ℕ) (shifts : List ℤ)
    → Walked → (columns' : List ℕ) (shifts' : List ℤ) → Type 0
WalksEvery way cells h theme b columns shifts w columns' shifts' =
    Walks way (score_of cells h) theme (from key (key_of way b) (starts way (score_of cells h) theme)) columns shifts w.found w.looks columns' shifts'

abbrev pub WalksCandidates : Way → (cells : List ℕ) (h : ℕ) (theme : List ℕ) → Bookmark → (sets table columns : List ℕ) (shifts : List ℤ)
    → Walked → (columns' : List ℕ) (shifts' : List ℤ) → Type 0
WalksCandidates way cells h theme b sets table columns shifts w columns' shifts' =
    Walks way (score_of cells h) theme (from key (key_of way b) (quick_starts word_bits way (score_of cells h) theme table sets)) columns shifts
    w.found w.looks columns' shifts'
