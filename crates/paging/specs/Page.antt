-- The whole answer of a page call, and what the lent buffers hold afterwards: `paged`, over any rows of refusals and any search. A refused
-- call writes nothing. `Pages` is what a call promises by it. Assumes nothing.
use Rattle.std.specs.Prelude.{◌≡◌, cond, not, List, ℕ, leb, pos, length, Result, Ok, Err}
use Rattle.theory.specs.Lists.{last}
use Rattle.score.specs.declared.refusals.Refusal.{Refusal}
use Rattle.score.specs.Score.{column_at}
use Rattle.score.specs.Refusals.{Row, judge}
use Rattle.ways.specs.declared.bookmark.Pair.{Pair}
use Rattle.ways.specs.declared.bookmark.Bookmark.{Bookmark}
use Rattle.ways.specs.Way.{Range}
use Rattle.ways.specs.Bookmarks.{after_pair, finished_bookmark}
use Rattle.paging.specs.declared.page.Turn.{Turn}
use Rattle.paging.specs.Lent.{Lent, written}
use Rattle.paging.specs.Search.{Search, found, spent}

-- a call's answer, and the lent buffers of pairs after it
pub record Leaf : Type 0 where
  pub answer : Result Turn Refusal
  pub buffers : Lent

-- the last of some pairs; of none, one that is no pair
abbrev pub last_pair : List Pair → Pair
last_pair pairs = last (record { column = column_at 0; shift = pos 0 }) pairs

-- the answer, where these pairs were written, in room r, with these looks: if r were written, it goes on after the last of them;
-- otherwise it is finished
abbrev pub turn : Range → (n r : ℕ) → List Pair → (looks : ℕ) → Turn
turn range n r pairs looks =
    record {
      written = length pairs;
      next = cond (leb r (length pairs)) (after_pair (last_pair pairs)) (finished_bookmark range (column_at n));
      finished = not (leb r (length pairs));
      looks = looks;
    }

-- the page of a search from a bookmark on
abbrev pub leaf : {Start : Type 0} → Search Start → Bookmark → Lent → Leaf
leaf S b buffers =
    let r = length buffers.columns in
    record { answer = Ok (turn S.range S.columns r (found S r b) (spent S r b)); buffers = written buffers (found S r b) }

-- a refused call
abbrev pub away : Lent → Refusal → Leaf
away buffers r = record { answer = Err r; buffers = buffers }

-- a call that is judged by these rows and then turns a page of this search
abbrev pub paged : {Start : Type 0} → List Row → Search Start → Bookmark → Lent → Leaf
paged rows S b buffers = judge rows (away buffers) (leaf S b buffers)

-- what a call promises
pub record Pages (leaf : Leaf) (answer : Result Turn Refusal) (buffers : Lent) : Type 0 where
  pub answers : answer ≡ leaf.answer
  pub writes : buffers ≡ leaf.buffers
