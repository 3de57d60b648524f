-- The whole answer of a page call, and what every lent buffer holds afterwards: `plain_page`, `quick_page` and `quick_table`. A
-- refused call writes nothing. Assumes nothing.
use Rattle.std.specs.Prelude.{◌≡◌, List, ℕ, Result}
use Rattle.score.specs.Score.{score_of}
use Rattle.score.specs.Refusals.{Row, judge}
use Rattle.ways.specs.declared.way.Way.{Way}
use Rattle.ways.specs.declared.way.AnyWay.{AnyWay}
use Rattle.ways.specs.declared.bookmark.Bookmark.{Bookmark}
use Rattle.asking.specs.Refusals.{plain_rows, quick_rows}
use Rattle.filter.specs.Limits.{word_bits}
use Rattle.filter.specs.Table.{theme_table}
use Rattle.paging.specs.Lent.{Lent}
use Rattle.paging.specs.Page.{Leaf, paged, Pages}
use Rattle.search.specs.Pairs.{search_as, quick_search}
use Rattle.paging.specs.declared.page.Turn.{Turn}
use Rattle.score.specs.declared.refusals.Refusal.{Refusal}

-- ---- plain: refusals 1 to 5, 9, 10; all ways

abbrev pub rows_of_plain : (cells : List ℕ) (h : ℕ) (theme : List ℕ) → AnyWay → Bookmark → Lent → List Row
rows_of_plain cells h theme way b buffers = plain_rows cells h theme way b buffers.columns buffers.shifts

-- a page of every start, or of the columns at which the tune stands as it is written
unfoldable pub plain_page : (cells : List ℕ) (h : ℕ) (theme : List ℕ) → AnyWay → Bookmark → Lent → Leaf
plain_page cells h theme way b buffers = paged (rows_of_plain cells h theme way b buffers) (search_as way (score_of cells h) theme) b buffers

-- what a plain call promises: this answer, and these buffers
pub record PlainPages (cells : List ℕ) (h : ℕ) (theme : List ℕ) (way : AnyWay) (b : Bookmark) (buffers : Lent) (answer : Result Turn Refusal) (after : Lent) : Type 0 where
  pub pages : Pages (plain_page cells h theme way b buffers) answer after

-- ---- quick: refusals 1 to 10; the ways that move the theme

abbrev pub rows_of_quick : (cells : List ℕ) (h : ℕ) (theme : List ℕ) → Way → Bookmark → (sets table : List ℕ) → Lent → List Row
rows_of_quick cells h theme way b sets table buffers = quick_rows cells h theme way b sets table buffers.columns buffers.shifts

-- a page of the starts at the columns that the theme's table and the lent sets make candidates
unfoldable pub quick_page : (cells : List ℕ) (h : ℕ) (theme : List ℕ) → Way → Bookmark → (sets table : List ℕ) → Lent → Leaf
quick_page cells h theme way b sets table buffers =
    paged (rows_of_quick cells h theme way b sets table buffers) (quick_search word_bits way (score_of cells h) theme (theme_table word_bits theme) sets) b buffers

-- the lent table after it: an accepted call leaves the theme's
unfoldable pub quick_table : (cells : List ℕ) (h : ℕ) (theme : List ℕ) → Way → Bookmark → (sets table : List ℕ) → Lent → List ℕ
quick_table cells h theme way b sets table buffers = judge (rows_of_quick cells h theme way b sets table buffers) (λ r. table) (theme_table word_bits theme)

-- what a quick call promises: this answer, these buffers, and this table
pub record QuickPages (cells : List ℕ) (h : ℕ) (theme : List ℕ) (way : Way) (b : Bookmark) (sets table : List ℕ) (buffers : Lent)
    (answer : Result Turn Refusal) (table' : List ℕ) (after : Lent) : Type 0 where
  pub pages : Pages (quick_page cells h theme way b sets table buffers) answer after
  pub fills_table : table' ≡ quick_table cells h theme way b sets table buffers
