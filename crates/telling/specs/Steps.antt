-- What the inner functions promise and need: what is written at a place of the output (`Wrote`), the room that a search is given,
-- and a page of it. Assumes nothing.
use Rattle.std.specs.Prelude.{◌≡◌, List, ℕ, ◌+◌, ◌≤◌, length, Result}
use Rattle.std.proofs.lemmas.List.Edits.{sets as stored}
use Rattle.score.specs.Limits.{table_words}
use Rattle.ways.specs.declared.way.AnyWay.{AnyWay}
use Rattle.ways.specs.declared.way.AnyWay.TheVariants.{Moved, Written}
use Rattle.ways.specs.declared.bookmark.Bookmark.{Bookmark}
use Rattle.paging.specs.Lent.{Lent, Room as PairsRoom}
use Rattle.paging.specs.Page.{Leaf, Pages}
use Rattle.search.specs.Page.{plain_page, quick_page}
use Rattle.telling.specs.Limits.{room as textRoom, page_pairs}
use Rattle.paging.specs.declared.page.Turn.{Turn}
use Rattle.score.specs.declared.refusals.Refusal.{Refusal}

-- these bytes from the place on, and the place behind them
pub record Wrote (bytes : List ℕ) (at : ℕ) (out : List ℕ) (r : ℕ) (out' : List ℕ) : Type 0 where
  pub place : r ≡ at + length bytes
  pub is : out' ≡ stored out at bytes

-- room for a table, for a page and for every text
pub record Room (table : List ℕ) (buffers : Lent) (out : List ℕ) : Type 0 where
  pub table_long : length table ≡ table_words
  pub pairs_room : PairsRoom page_pairs buffers
  pub out_long : textRoom ≤ length out

-- a page of the search that is told: a quick one, by these sets, or, as the tune is written, a plain one
abbrev pub told_page : (cells : List ℕ) (h : ℕ) (theme : List ℕ) → AnyWay → Bookmark → (sets table : List ℕ) → Lent → Leaf
told_page cells h theme (Moved way) b sets table buffers = quick_page cells h theme way b sets table buffers
told_page cells h theme Written b sets table buffers = plain_page cells h theme Written b buffers

pub record PageTold (cells : List ℕ) (h : ℕ) (theme : List ℕ) (way : AnyWay) (b : Bookmark) (sets table : List ℕ) (buffers : Lent)
    (answer : Result Turn Refusal) (after : Lent) : Type 0 where
  pub pages : Pages (told_page cells h theme way b sets table buffers) answer after
