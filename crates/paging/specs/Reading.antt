-- How an editor reads a list: page after page, each call with buffers of r places that hold whatever they held, each going on from the
-- bookmark last returned, up to the first page that is finished. `Reading` says which pairs the pages hold and what each page
-- answered. Assumes nothing.
use Rattle.std.specs.Prelude.{◌≡◌, true, false, List, [], ◌∷◌, ℕ, Ok}
use Rattle.ways.specs.declared.bookmark.Pair.{Pair}
use Rattle.ways.specs.declared.bookmark.Bookmark.{Bookmark}
use Rattle.paging.specs.declared.page.Turn.{Turn}
use Rattle.paging.specs.Lent.{Lent, Room, read_pairs}
use Rattle.paging.specs.Page.{Leaf}

-- one page: the call at b, with some buffers of r places, answered t and left these pairs
pub record Turns (call : Bookmark → Lent → Leaf) (r : ℕ) (b : Bookmark) (t : Turn) (pairs : List Pair) : Type 0 where
  pub buffers : Lent
  pub room : Room r buffers
  pub answered : (call b buffers).answer ≡ Ok t
  pub left : pairs ≡ read_pairs t.written (call b buffers).buffers

module _ (call : Bookmark → Lent → Leaf) (r : ℕ) where
  -- from the bookmark b on: the pairs of each page, and what each page answered
  pub data Reading : Bookmark → List (List Pair) → List Turn → Type 0 where
    last : {b : Bookmark} {t : Turn} {pairs : List Pair} → Turns call r b t pairs → t.finished ≡ true → Reading b (pairs ∷ []) (t ∷ [])
    more : {b : Bookmark} {t : Turn} {pairs : List Pair} {pages : List (List Pair)} {turns : List Turn} → Turns call r b t pairs
        → t.finished ≡ false → Reading t.next pages turns → Reading b (pairs ∷ pages) (t ∷ turns)
