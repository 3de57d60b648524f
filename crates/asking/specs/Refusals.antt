-- The rows of the table of refusals that a search adds: 4, 5, 8, 9, 10; rows 1 to 3, 6 and 7 are the score's. Last, the
-- rows that belong together, and those of each call, in order: `plain_rows` and `quick_rows`. Assumes nothing.
use Rattle.std.specs.Prelude.{Bool, not, ◌||◌, List, [], ◌∷◌, ◌++◌, ℕ, ◌+◌, ltb, eqb, ℤ, pos, ◌+ℤ◌, length}
use Rattle.std.specs.Int.Signed.{lt_z}
use Rattle.theory.specs.Lists.{some, first}
use Rattle.score.specs.Limits.{highest_pitch, table_words}
use Rattle.score.specs.Score.{columns_in}
use Rattle.score.specs.Refusals.{Row, row, row1, row2, row3, row6, row7}
use Rattle.ways.specs.declared.way.Way.{Way}
use Rattle.ways.specs.declared.way.AnyWay.{AnyWay}
use Rattle.ways.specs.declared.bookmark.Bookmark.{Bookmark}
use Rattle.ways.specs.Way.{Range, range_of, range_as}
use Rattle.score.specs.declared.refusals.Rule.TheVariants as rule
use Rattle.asking.specs.Limits.{most_notes}

-- 4: the theme has fewer than two notes, or more than `most`, which a call names: 32
abbrev pub row4 : (most : ℕ) (theme : List ℕ) → Row
row4 most theme = row rule.Notes (ltb (length theme) 2 || ltb most (length theme)) 0

-- 5: some note lies above every pitch; the place is the first of them, counted from 0
abbrev pub bad_note : ℕ → Bool
bad_note p = ltb highest_pitch p

abbrev pub row5 : (theme : List ℕ) → Row
row5 theme = row rule.Note (some bad_note theme) (first bad_note theme)

-- 8: the table has not a word for each set
abbrev pub row8 : (long : ℕ) → Row
row8 long = row rule.TableLength (not (eqb long table_words)) 0

-- 9: there is no room, or the two buffers are not equally long
abbrev pub row9 : (r other : ℕ) → Row
row9 r other = row rule.Room (eqb r 0 || not (eqb other r)) 0

-- 10: the bookmark has no column 1 to n + 1, or its shift is below the range or more than one above it
abbrev pub row10 : Range → (n : ℕ) → Bookmark → Row
row10 range n b =
    row rule.Bookmark
    (eqb b.column.0 0 || ltb (n + 1) b.column.0 || lt_z b.shift range.lowest || lt_z (range.highest +ℤ pos 1) b.shift)
    0

-- ---- rows that belong together

-- a theme: 4, 5
abbrev pub theme_rows : (most : ℕ) (theme : List ℕ) → List Row
theme_rows most theme = row4 most theme ∷ row5 theme ∷ []

-- a score and a theme: 1 to 5
abbrev pub request_rows : (most : ℕ) (cells : List ℕ) (h : ℕ) (theme : List ℕ) → List Row
request_rows most cells h theme = row1 h ∷ row2 cells h ∷ row3 cells ∷ theme_rows most theme

-- lent sets, and a table of this length: 6 to 8
abbrev pub sets_rows : (cells : List ℕ) (h : ℕ) (sets : List ℕ) (table : ℕ) → List Row
sets_rows cells h sets table = row6 cells h sets ∷ row7 sets ∷ row8 table ∷ []

-- a score and a theme, with lent sets and a table of this length: 1 to 8
abbrev pub with_sets_rows : (cells : List ℕ) (h : ℕ) (theme sets : List ℕ) (table : ℕ) → List Row
with_sets_rows cells h theme sets table = request_rows most_notes cells h theme ++ sets_rows cells h sets table

-- two buffers of these lengths, and a bookmark: 9, 10
abbrev pub page_rows : Range → (n : ℕ) → Bookmark → (r other : ℕ) → List Row
page_rows range n b r other = row9 r other ∷ row10 range n b ∷ []

-- ---- the rows of each call, in order

-- plain: 1 to 5, 9, 10
abbrev pub plain_rows : (cells : List ℕ) (h : ℕ) (theme : List ℕ) → AnyWay → Bookmark → (columns : List ℕ) (shifts : List ℤ) → List Row
plain_rows cells h theme way b columns shifts =
    request_rows most_notes cells h theme ++ page_rows (range_as way) (columns_in cells h) b (length columns) (length shifts)

-- quick: 1 to 10
abbrev pub quick_rows : (cells : List ℕ) (h : ℕ) (theme : List ℕ) → Way → Bookmark → (sets table columns : List ℕ) (shifts : List ℤ) → List Row
quick_rows cells h theme way b sets table columns shifts =
    request_rows most_notes cells h theme ++ sets_rows cells h sets (length table) ++ page_rows (range_of way) (columns_in cells h) b (length columns) (length shifts)
