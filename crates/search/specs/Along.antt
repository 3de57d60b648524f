-- A page along all columns of a score, one after another, for the contracts of inner functions: no public call promises it by
-- itself (`AlongPages`, `QuickAlongPages`). And a bookmark of a score as one among its columns with a pitch (`among`). Assumes nothing.
use Rattle.std.specs.Prelude.{◌≡◌, Bool, true, cond, not, List, map, ℕ, ◌+◌, ◌-◌, ◌≤◌, leb, eqb, ℤ, length, get_or, take, Result, Ok, Err}
use Rattle.theory.specs.Lists.{over, first}
use Rattle.score.specs.Score.{column_at, score_of, heard, has_empty, heard_of}
use Rattle.ways.specs.declared.way.Way.{Way}
use Rattle.ways.specs.declared.way.AnyWay.{AnyWay}
use Rattle.ways.specs.declared.bookmark.Bookmark.{Bookmark}
use Rattle.ways.specs.Way.{Range}
use Rattle.filter.specs.Limits.{word_bits}
use Rattle.filter.specs.Table.{theme_table}
use Rattle.paging.specs.Lent.{Lent, lent}
use Rattle.paging.specs.Search.{Search, only}
use Rattle.paging.specs.Page.{Leaf, paged, Pages}
use Rattle.paging.specs.Turning.{read_turn}
use Rattle.walking.specs.Starts.{Place}
use Rattle.walking.specs.Candidates.{candidate}
use Rattle.search.specs.Pairs.{along_search, along_as}
use Rattle.search.specs.Page.{rows_of_plain, rows_of_quick, quick_table}
use Rattle.paging.specs.declared.page.Turn.{Turn}
use Rattle.score.specs.declared.refusals.Refusal.{Refusal}

-- ---- plain

unfoldable pub along_page : (cells : List ℕ) (h : ℕ) (theme : List ℕ) → AnyWay → Bookmark → Lent → Leaf
along_page cells h theme way b buffers = paged (rows_of_plain cells h theme way b buffers) (along_as way (score_of cells h) theme) b buffers

pub record AlongPages (cells : List ℕ) (h : ℕ) (theme : List ℕ) (way : AnyWay) (b : Bookmark) (buffers : Lent) (answer : Result Turn Refusal) (after : Lent) : Type 0 where
  pub pages : Pages (along_page cells h theme way b buffers) answer after

-- ---- quick

-- the starts at the columns that a table and sets make candidates
abbrev pub quick_along : (w : ℕ) → Way → (columns : List (List ℕ)) (theme table sets : List ℕ) → Search Place
quick_along w way columns theme table sets = only (λ s. candidate w table sets (length theme) s.column) (along_search way columns theme)

unfoldable pub quick_along_page : (cells : List ℕ) (h : ℕ) (theme : List ℕ) → Way → Bookmark → (sets table : List ℕ) → Lent → Leaf
quick_along_page cells h theme way b sets table buffers =
    paged (rows_of_quick cells h theme way b sets table buffers) (quick_along word_bits way (score_of cells h) theme (theme_table word_bits theme) sets) b buffers

pub record QuickAlongPages (cells : List ℕ) (h : ℕ) (theme : List ℕ) (way : Way) (b : Bookmark) (sets table : List ℕ) (buffers : Lent)
    (answer : Result Turn Refusal) (table' : List ℕ) (after : Lent) : Type 0 where
  pub pages : Pages (quick_along_page cells h theme way b sets table buffers) answer after
  pub fills_table : table' ≡ quick_table cells h theme way b sets table buffers

-- ---- what is left without the empty columns

-- a page goes along all columns: none of them is empty, or no cell is a pitch
abbrev pub goes_along : (cells : List ℕ) (h : ℕ) → Bool
goes_along cells h = cond (has_empty (score_of cells h)) (not (heard cells)) true

-- some column has a pitch, and a buffer has room for the cells
pub record Leaves (cells : List ℕ) (h : ℕ) (kept : List ℕ) : Type 0 where
  pub some_heard : 1 ≤ length (heard_of (score_of cells h))
  pub room : length cells ≤ length kept

-- ---- bookmarks

-- a bookmark among columns that have these numbers: at its own column, or, where that is none of them,
-- at the lowest shift of the next
abbrev pub among : Range → (numbers : List ℕ) → Bookmark → Bookmark
among range numbers b =
    let at = first (λ k. leb b.column.0 k) numbers in
    record { column = column_at (at + 1); shift = cond (eqb (get_or numbers at 0) b.column.0) b.shift range.lowest }

-- ---- a page along columns that have these numbers, as one of the score

-- the columns that it wrote, renamed where they stand
abbrev renamed_by : Result Turn Refusal → (numbers columns : List ℕ) → List ℕ
renamed_by (Ok t) numbers columns = over columns (map (λ j. get_or numbers (j - 1) 0) (take t.written columns))
renamed_by (Err r) numbers columns = columns

-- its answer, read off the buffers anew
abbrev read_anew : Result Turn Refusal → (end : Bookmark) → Lent → Result Turn Refusal
read_anew (Ok t) end buffers = Ok (read_turn end t.written t.looks buffers)
read_anew (Err r) end buffers = Err r

pub record InScore (page : Result Turn Refusal) (end : Bookmark) (numbers columns : List ℕ) (shifts : List ℤ) (answer : Result Turn Refusal) (columns' : List ℕ) : Type 0 where
  pub renames : columns' ≡ renamed_by page numbers columns
  pub answers : answer ≡ read_anew page end (lent columns' shifts)
