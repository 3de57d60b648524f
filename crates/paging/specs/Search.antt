-- What a search is, whatever it seeks and however: `Search`. It reaches starts, in order; some of them are hits; trying one costs looks;
-- and each shows a pair. `listed` is the whole list, `found` and `spent` what one page has and costs. `Right` is all that the laws of
-- pages ask of a search. Assumes nothing.
use Rattle.std.specs.Prelude.{Bool, ℕ, ◌<◌, pos, negsuc, ◌≤ℤ◌}
use mathlib.Core.List.{List, map, Memᴰ as In}
use Rattle.theory.specs.Lists.{sum}
use Rattle.theory.specs.Pages.{hits, page_hits, page_looks}
use Rattle.score.specs.Score.{column_at}
use Rattle.ways.specs.declared.bookmark.Pair.{Pair}
use Rattle.ways.specs.declared.bookmark.Bookmark.{Bookmark}
use Rattle.ways.specs.Way.{Range}
use Rattle.paging.specs.Order.{Ordered, Within, at_or_after}

-- a search over starts of any kind
pub record Search (Start : Type 0) : Type 0 where
  -- the columns of the score, and the range of the shifts
  pub columns : ℕ
  pub range : Range
  -- the starts that are reached, in order
  pub starts : List Start
  -- which of them are hits, and what trying one costs
  pub hit : Start → Bool
  pub looks : Start → ℕ
  -- the pair that a start shows
  pub shown : Start → Pair

-- shifts of the widest range, -127 to 127, and at least one
pub record Narrow (range : Range) : Type 0 where
  pub not_below : negsuc 126 ≤ℤ range.lowest
  pub some : range.lowest ≤ℤ range.highest
  pub not_above : range.highest ≤ℤ pos 127

-- a search whose starts show pairs in order, each of a column of the score and of a shift of the range
pub record Right {Start : Type 0} (S : Search Start) : Type 0 where
  pub ordered : Ordered (map S.shown S.starts)
  pub each : (s : Start) → In s S.starts → Within S.range S.columns (S.shown s)
  pub narrow : Narrow S.range
  pub few : S.columns < 65535

-- the same search that reaches only the starts which pass a test
abbrev pub only : {Start : Type 0} → (Start → Bool) → Search Start → Search Start
only keep S =
    record { columns = S.columns; range = S.range; starts = hits keep S.starts; hit = S.hit; looks = S.looks; shown = S.shown }

-- a pair whose column has another number
abbrev pub renamed : (number : ℕ → ℕ) → Pair → Pair
renamed number pair = record { column = column_at (number pair.column.0); shift = pair.shift }

-- the same search with the columns of its pairs under other numbers, those of a score of n columns
abbrev pub renumbered : {Start : Type 0} → (n : ℕ) (number : ℕ → ℕ) → Search Start → Search Start
renumbered n number S =
    record { columns = n; range = S.range; starts = S.starts; hit = S.hit; looks = S.looks; shown = λ s. renamed number (S.shown s) }

module _ {Start : Type 0} (S : Search Start) where
  -- every pair, and the looks of every start
  abbrev pub listed : List Pair
  listed = map S.shown (hits S.hit S.starts)

  abbrev pub all_looks : ℕ
  all_looks = sum (map S.looks S.starts)

  -- the starts at or after a bookmark
  abbrev pub left : Bookmark → List Start
  left b = hits (λ s. at_or_after b (S.shown s)) S.starts

  -- a page with room r: the first r pairs from the bookmark on, and the looks of every start up to the one that fills the page
  abbrev pub found : (r : ℕ) → Bookmark → List Pair
  found r b = map S.shown (page_hits S.hit r (left b))

  abbrev pub spent : (r : ℕ) → Bookmark → ℕ
  spent r b = page_looks S.hit S.looks r (left b)
