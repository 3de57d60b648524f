-- The tune in its own key: a theme stands at a column as it is written where each of its notes is a pitch of its own column.
-- The definition that matters is `stands_at`; that these are the exact pairs with shift 0 is proved (in `search`). The page call
-- promises `WrittenPages`. The search goes along the columns that it is handed, one after another; empty columns, those without
-- a pitch, are taken out before, by its caller. Assumes nothing.
use Rattle.std.specs.Prelude.{Bool, true, false, cond, List, [], ◌∷◌, ℕ, ◌+◌, ◌-◌, eqb, pos, length, get_or, drop, Result}
use Rattle.theory.specs.Lists.{some, count}
use Rattle.score.specs.Score.{column_at, score_of, columns_from, pitches}
use Rattle.ways.specs.declared.way.AnyWay.TheVariants.{Written}
use Rattle.ways.specs.declared.bookmark.Bookmark.{Bookmark}
use Rattle.ways.specs.Way.{range_as}
use Rattle.asking.specs.Refusals.{plain_rows}
use Rattle.paging.specs.Lent.{Lent}
use Rattle.paging.specs.Search.{Search}
use Rattle.paging.specs.Page.{Leaf, paged, Pages}
use Rattle.paging.specs.declared.page.Turn.{Turn}
use Rattle.score.specs.declared.refusals.Refusal.{Refusal}

-- the column has this pitch
abbrev pub has : (column : List ℕ) (p : ℕ) → Bool
has column p = some (λ t. eqb t.0 p) (pitches column)

-- each note is a pitch of its column, one column after another
abbrev pub sounds : (notes : List ℕ) (columns : List (List ℕ)) → Bool
sounds [] columns = true
sounds (p ∷ notes) columns = cond (has (get_or columns 0 []) p) (sounds notes (drop 1 columns)) false

-- the theme stands at column j as it is written
unfoldable pub stands_at : (score : List (List ℕ)) (theme : List ℕ) (j : ℕ) → Bool
stands_at score theme j = sounds theme (columns_from score (column_at j))

-- the search reaches each column from which on the theme has room, 1 to n - m + 1; each shows the pair with shift 0, and none
-- costs a look
abbrev pub written_search : (score : List (List ℕ)) (theme : List ℕ) → Search ℕ
written_search score theme =
    record {
      columns = length score;
      range = range_as Written;
      starts = count 1 (length score + 1 - length theme);
      hit = stands_at score theme;
      looks = λ j. 0;
      shown = λ j. record { column = column_at j; shift = pos 0 };
    }

-- the whole answer of the page call: refusals 1 to 5, 9, 10, or a page of that search
unfoldable pub written_page : (cells : List ℕ) (h : ℕ) (theme : List ℕ) → Bookmark → Lent → Leaf
written_page cells h theme b buffers =
    paged (plain_rows cells h theme Written b buffers.columns buffers.shifts) (written_search (score_of cells h) theme) b buffers

-- what the call promises: this answer, and these buffers
pub record WrittenPages (cells : List ℕ) (h : ℕ) (theme : List ℕ) (b : Bookmark) (buffers : Lent) (answer : Result Turn Refusal) (after : Lent) : Type 0 where
  pub pages : Pages (written_page cells h theme b buffers) answer after
