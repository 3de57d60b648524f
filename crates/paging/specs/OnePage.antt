-- What one page is, said of the list of pairs and in the requirement's words: the first r pairs at or after the bookmark, what stays behind
-- them, and where it goes on (`PageOf`). That the pages of `Page` are such pages is proved (`proofs/OnePages`). Assumes nothing.
use Rattle.std.specs.Prelude.{◌≡◌, true, false, List, ℕ, ◌+◌, ◌<◌, pos, ◌+ℤ◌, length, take, Ok}
use Rattle.theory.specs.Pages.{hits}
use Rattle.score.specs.Score.{column_at}
use Rattle.ways.specs.declared.bookmark.Pair.{Pair}
use Rattle.ways.specs.declared.bookmark.Bookmark.{Bookmark}
use Rattle.ways.specs.Way.{Range}
use Rattle.paging.specs.declared.page.Turn.{Turn}
use Rattle.paging.specs.Lent.{Lent, behind, read_pairs}
use Rattle.paging.specs.Order.{at_or_after}
use Rattle.paging.specs.Page.{Leaf, last_pair}

-- the first r pairs of the list at or after the bookmark, fewer if fewer remain
abbrev pub first_pairs : ℕ → Bookmark → List Pair → List Pair
first_pairs r b list = take r (hits (at_or_after b) list)

-- the pair with its shift raised by one
abbrev pub raised : Pair → Bookmark
raised pair = record { column = pair.column; shift = pair.shift +ℤ pos 1 }

-- a page of the list, in a score of n columns, from the bookmark b, in buffers that held this: the call's answer, and what they hold then. The
-- looks are those of every start from the bookmark on, up to the one that fills the page (`spent` of a search)
pub record PageOf (list : List Pair) (range : Range) (n looks : ℕ) (b : Bookmark) (buffers : Lent) (leaf : Leaf) : Type 0 where
  pub turn : Turn
  pub answered : leaf.answer ≡ Ok turn
  -- the pairs are written from the front; places behind them keep their contents
  pub count : turn.written ≡ length (first_pairs (length buffers.columns) b list)
  pub front : read_pairs turn.written leaf.buffers ≡ first_pairs (length buffers.columns) b list
  pub kept : behind turn.written leaf.buffers ≡ behind turn.written buffers
  pub looked : turn.looks ≡ looks
  -- if r pairs were written, the next bookmark is the last pair with its shift raised by one, and it is not finished
  pub goes_on : turn.written ≡ length buffers.columns
      → (turn.finished ≡ false) × (turn.next ≡ raised (last_pair (first_pairs (length buffers.columns) b list)))
  -- otherwise it is finished and the next bookmark is (n + 1, lowest shift)
  pub ends : turn.written < length buffers.columns
      → (turn.finished ≡ true) × (turn.next ≡ record { column = column_at (n + 1); shift = range.lowest })
