-- What a call asks for (`PlainAsks`, `QuickAsks`), in the words of the table of refusals turned round and apart from any
-- method. Assumes nothing.
use Rattle.std.specs.Prelude.{◌≡◌, false, List, ℕ, ◌+◌, ◌-◌, ◌%◌, ◌≤◌, ℤ, pos, ◌+ℤ◌, length, ◌≤ℤ◌}
use Rattle.theory.specs.Lists.{some}
use Rattle.score.specs.Limits.{most_tracks, most_columns, table_words}
use Rattle.score.specs.Score.{columns_in}
use Rattle.score.specs.Refusals.{bad_cell, bad_set}
use Rattle.ways.specs.declared.way.Way.{Way}
use Rattle.ways.specs.declared.way.AnyWay.{AnyWay}
use Rattle.ways.specs.declared.way.AnyWay.TheVariants.{Moved}
use Rattle.ways.specs.declared.bookmark.Bookmark.{Bookmark}
use Rattle.ways.specs.Way.{Range, range_as}
use Rattle.asking.specs.Limits.{most_notes}
use Rattle.asking.specs.Refusals.{bad_note}

-- ---- what is accepted

-- a score and a theme: 1 to 16 tracks, 1 to 2,048 whole columns, no cell 128 to 254; 2 to `most` notes, none over 127
pub record Accepted (most : ℕ) (cells : List ℕ) (h : ℕ) (theme : List ℕ) : Type 0 where
  pub tracks_some : 1 ≤ h
  pub tracks_few : h ≤ most_tracks
  pub columns_whole : length cells % h ≡ 0
  pub columns_some : 1 ≤ columns_in cells h
  pub columns_few : columns_in cells h ≤ most_columns
  pub cells_good : some bad_cell cells ≡ false
  pub notes_some : 2 ≤ length theme
  pub notes_few : length theme ≤ most
  pub notes_good : some bad_note theme ≡ false

-- lent sets: one less than columns, none over 4095. They may come from any score
pub record AcceptedSets (cells : List ℕ) (h : ℕ) (sets : List ℕ) : Type 0 where
  pub one_less : length sets ≡ columns_in cells h - 1
  pub sets_good : some bad_set sets ≡ false

-- a bookmark: column 1 to n + 1, and a shift of the range, or one more than the highest
pub record InRange (range : Range) (n : ℕ) (b : Bookmark) : Type 0 where
  pub from_first : 1 ≤ b.column.0
  pub to_end : b.column.0 ≤ n + 1
  pub not_below : range.lowest ≤ℤ b.shift
  pub not_above : b.shift ≤ℤ (range.highest +ℤ pos 1)

-- what a page asks for: a score and a theme of `most` notes at most, buffers of equal length and not empty, a bookmark
pub record PageAsks (most : ℕ) (cells : List ℕ) (h : ℕ) (theme : List ℕ) (way : AnyWay) (b : Bookmark) (columns : List ℕ) (shifts : List ℤ) : Type 0 where
  pub accepted : Accepted most cells h theme
  pub room : 1 ≤ length columns
  pub same_room : length shifts ≡ length columns
  pub marked : InRange (range_as way) (columns_in cells h) b

-- what a plain call asks for
abbrev pub PlainAsks : (cells : List ℕ) (h : ℕ) (theme : List ℕ) → AnyWay → Bookmark → (columns : List ℕ) (shifts : List ℤ) → Type 0
PlainAsks cells h theme way b columns shifts = PageAsks most_notes cells h theme way b columns shifts

-- what a quick call asks for: also sets, and a theme table of 4,096 places
pub record QuickAsks (cells : List ℕ) (h : ℕ) (theme : List ℕ) (way : Way) (b : Bookmark) (sets table columns : List ℕ) (shifts : List ℤ) : Type 0 where
  pub plain : PageAsks most_notes cells h theme (Moved way) b columns shifts
  pub with_sets : AcceptedSets cells h sets
  pub table_long : length table ≡ table_words
