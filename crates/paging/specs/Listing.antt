-- What a call comes to that turns the pages of a list: whatever buffers it is lent, page after page from a bookmark on it lists these pairs,
-- in so many pages, with so many looks (`Lists`); and that one page is another with no more looks (`SamePage`). Assumes nothing.
use Rattle.std.specs.Prelude.{◌≡◌, List, map, ℕ, suc, ◌+◌, ◌/◌, ◌≤◌, length, Result, Ok, Err}
use Rattle.theory.specs.Lists.{sum, join}
use Rattle.score.specs.declared.refusals.Refusal.{Refusal}
use Rattle.ways.specs.declared.bookmark.Pair.{Pair}
use Rattle.ways.specs.declared.bookmark.Bookmark.{Bookmark}
use Rattle.paging.specs.declared.page.Turn.{Turn}
use Rattle.paging.specs.Lent.{Lent, Room}
use Rattle.paging.specs.Page.{Leaf}
use Rattle.paging.specs.Reading.{Reading, last, more}

-- ---- one page and another

-- the same answer, with no more looks; or the same refusal
pub data NoDearer : Result Turn Refusal → Result Turn Refusal → Type 0 where
  turned : {t u : Turn} → t.written ≡ u.written → t.next ≡ u.next → t.finished ≡ u.finished → t.looks ≤ u.looks
      → NoDearer (Ok t) (Ok u)
  refused : {r : Refusal} → NoDearer (Err r) (Err r)

pub record SamePage (a b : Leaf) : Type 0 where
  pub answers : NoDearer a.answer b.answer
  pub writes : a.buffers ≡ b.buffers

-- ---- page after page

-- the i-th call of the reading, and each after it, was lent the buffers that the supply has for it
module _ (supply : ℕ → Lent) (call : Bookmark → Lent → Leaf) (r : ℕ) where
  abbrev pub Supplied : (i : ℕ) {b : Bookmark} {pages : List (List Pair)} {turns : List Turn} → Reading call r b pages turns → Type 0
  Supplied i (last t e) = t.buffers ≡ supply i
  Supplied i (more t e reading) = (t.buffers ≡ supply i) × Supplied (suc i) reading

-- there is a reading from b on, whose calls are lent these buffers
pub record Read (supply : ℕ → Lent) (call : Bookmark → Lent → Leaf) (r i : ℕ) (b : Bookmark) : Type 0 where
  pub pages : List (List Pair)
  pub turns : List Turn
  pub reading : Reading call r b pages turns
  pub supplied : Supplied supply call r i reading

-- calls with room r list these pairs, with these looks: whatever buffers are lent there is a reading from b on, and the pages of each,
-- joined, are the list; there are floor (L / r) + 1 of them, for a list of L pairs; and their looks add up
pub record Lists (call : Bookmark → Lent → Leaf) (r : ℕ) (b : Bookmark) (list : List Pair) (spent : ℕ) : Type 0 where
  pub read : (supply : ℕ → Lent) → ((i : ℕ) → Room r (supply i)) → Read supply call r 0 b
  pub joined : {pages : List (List Pair)} {turns : List Turn} → Reading call r b pages turns → join pages ≡ list
  pub counted : {pages : List (List Pair)} {turns : List Turn} → Reading call r b pages turns → length pages ≡ length list / r + 1
  pub looked : {pages : List (List Pair)} {turns : List Turn} → Reading call r b pages turns
      → sum (map (λ (t : Turn). t.looks) turns) ≡ spent
