-- A finished bookmark handed in again: no pair stands at or after it, so that page is empty, costs no looks, is finished, and goes on from that
-- same bookmark; nothing is written (`finished_again`). Assumes nothing.
use mathlib.Core.Path.{◌≡◌, refl, ap, ap₂, ◌∙◌}
use mathlib.Core.Bool.{Bool, true, false}
use mathlib.Core.List.{List, [], map}
use Prim.Native.Nat.{ℕ, zero, suc, ◌+◌, ◌<◌}
use native.Mathlib.Omega.{arith}
use borrow.Author.Tests.{lt-ltb, le-ltb, lt-leb, ne_eqb}
use Rattle.theory.specs.Pages.{page_hits, page_looks}
use Rattle.theory.proofs.Counts.{hits_none}
use Rattle.theory.proofs.Hits.{hits_same}
use Rattle.score.specs.Score.{column_at}
use Rattle.ways.specs.declared.bookmark.Pair.{Pair}
use Rattle.ways.specs.declared.bookmark.Bookmark.{Bookmark}
use Rattle.ways.specs.Way.{Range}
use Rattle.ways.specs.Bookmarks.{finished_bookmark}
use Rattle.paging.specs.Lent.{Lent, Room, written}
use Rattle.paging.specs.Order.{Within, at_or_after}
use Rattle.paging.specs.Search.{Search, left, found, spent}
use Rattle.paging.specs.Page.{Leaf, turn}
use Rattle.paging.proofs.Bookmarks.{finished_range}
use Rattle.paging.proofs.Paging.{Calls, call_leaf}
use Rattle.std.specs.Prelude.{Ok}

-- no pair of the score stands there
none_after : {range : Range} {n : ℕ} {pair : Pair} → n < 65535 → Within range n pair → at_or_after (finished_bookmark range (column_at n)) pair ≡ false
none_after {n = n} {pair = pair} few w =
    rw (
      lt-ltb n 65535 few,
      le-ltb (n + 1) pair.column.0 (omega (arith, w.to_last)),
      ne_eqb (n + 1) pair.column.0 (λ e. omega (arith, e, w.to_last)),
    )

-- a page of no starts
page_none : {A : Type 0} (hit : A → Bool) (r : ℕ) → page_hits hit r [] ≡ []
page_none hit zero = refl
page_none hit (suc r) = refl

looks_none : {A : Type 0} (hit : A → Bool) (looks : A → ℕ) (r : ℕ) → page_looks hit looks r [] ≡ 0
looks_none hit looks zero = refl
looks_none hit looks (suc r) = refl

module _ {Start : Type 0} {S : Search Start} {r : ℕ} {call : Bookmark → Lent → Leaf} (calls : Calls S r call) where
  abbrev pub ended : Bookmark
  ended = finished_bookmark S.range (column_at S.columns)

  none_left : left S ended ≡ []
  none_left =
      hits_same (λ (s : Start). at_or_after ended (S.shown s)) (λ s. false) S.starts
      (λ s m. none_after calls.right.few (calls.right.each s m)) ∙ hits_none S.starts

  pub finished_again : (buffers : Lent) → Room r buffers
      → call ended buffers ≡ record { answer = Ok (record { written = 0; next = ended; finished = true; looks = 0 }); buffers = buffers }
  finished_again buffers room =
      let f : found S r ended ≡ [] = ap (λ (l : List Start). map S.shown (page_hits S.hit r l)) none_left ∙ ap (map S.shown) (page_none S.hit r) in
      let g : spent S r ended ≡ 0 = ap (page_looks S.hit S.looks r) none_left ∙ looks_none S.hit S.looks r in
      call_leaf calls ended (finished_range calls.right.narrow S.columns calls.right.few) buffers room
      ∙ ap₂ (λ (pairs : List Pair) (k : ℕ). record { answer = Ok (turn S.range S.columns r pairs k); buffers = written buffers pairs }) f g
      ∙ rw (lt-leb r 0 calls.some_room)
