-- What the theorems about starts name: a start as a pair (j, c), said of the score and no method (`IsStart`), and the starts
-- that a page goes through from a bookmark on (`plain_reached`, `quick_reached`). The theorems are in `proofs/FromBookmarks`.
-- Assumes nothing.
use Rattle.std.specs.Prelude.{◌≡◌, true, List, map, ℕ, ◌≤◌, length, ◌≤ℤ◌}
use Rattle.score.specs.Score.{column, heard, onward, note}
use Rattle.ways.specs.declared.way.Way.{Way}
use Rattle.ways.specs.declared.bookmark.Pair.{Pair}
use Rattle.ways.specs.declared.bookmark.Bookmark.{Bookmark}
use Rattle.ways.specs.Way.{Holds, lowest, highest}
use Rattle.paging.specs.Search.{Search, left}
use Rattle.search.specs.Pairs.{plain_search, quick_search}

-- column j has a pitch, the theme has room from it on, c is a shift of the way, and the first note is present
pub record IsStart (way : Way) (score : List (List ℕ)) (theme : List ℕ) (pair : Pair) : Type 0 where
  pub from_first : 1 ≤ pair.column.0
  pub with_pitch : heard (column score pair.column) ≡ true
  pub to_last : length theme ≤ length (onward score pair.column)
  pub not_below : lowest way ≤ℤ pair.shift
  pub not_above : pair.shift ≤ℤ highest way
  pub first_note : Holds way (column score pair.column) (note theme 1) pair.shift

-- the starts that a page goes through from a bookmark on, up to the one that fills it or to the end
abbrev reached : {Start : Type 0} → Search Start → Bookmark → List Pair
reached S b = map S.shown (left S b)

abbrev pub plain_reached : Way → (score : List (List ℕ)) (theme : List ℕ) → Bookmark → List Pair
plain_reached way score theme b = reached (plain_search way score theme) b

abbrev pub quick_reached : (w : ℕ) → Way → (score : List (List ℕ)) (theme table sets : List ℕ) → Bookmark → List Pair
quick_reached w way score theme table sets b = reached (quick_search w way score theme table sets) b
