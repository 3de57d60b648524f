-- One page, said of the list of pairs: a call that turns the pages of a right search writes the first r pairs of its list at or after the
-- bookmark, leaves what stands behind them, and goes on or ends as it should (`call_page`). Assumes nothing.
use mathlib.Core.Path.{◌≡◌, sym, ap, ◌∙◌}
use mathlib.Core.Bool.{true, false, not}
use mathlib.Core.List.{List, map}
use Prim.Native.Nat.{ℕ, ◌+◌, ◌≤◌, ◌<◌}
use native.Mathlib.Nat.{le_trans}
use native.Mathlib.Omega.{arith}
use lib.ListN.{length}
use borrow.Author.Tests.{le-leb, lt-leb, lt-ltb}
use Rattle.theory.specs.Pages.{hits}
use Rattle.theory.proofs.Pages.{page_take}
use Rattle.theory.proofs.Looks.{sum_hits, page_looks_le}
use Rattle.theory.proofs.Hits.{hits_hits, hits_map, take_map}
use Rattle.score.specs.Score.{column_at}
use Rattle.ways.specs.declared.bookmark.Pair.{Pair}
use Rattle.ways.specs.declared.bookmark.Bookmark.{Bookmark}
use Rattle.asking.specs.Asking.{InRange}
use Rattle.paging.specs.Lent.{Lent, Room, behind}
use Rattle.paging.specs.Order.{at_or_after}
use Rattle.paging.specs.Search.{Search, listed, all_looks, left, found, spent}
use Rattle.paging.specs.Page.{Leaf, last_pair}
use Rattle.paging.specs.OnePage.{first_pairs, raised, PageOf}
use Rattle.paging.proofs.Bookmarks.{after_raised, within_near}
use Rattle.paging.proofs.Buffers.{kept_behind}
use Rattle.paging.proofs.Paging.{Calls, told, full_is, last_within, next_is, call_leaf, call_answer, call_read}

-- of every search: the pairs at or after a bookmark, and the first of them
module _ {Start : Type 0} (S : Search Start) (b : Bookmark) where
  at_or_after_lem : hits (at_or_after b) (listed S) ≡ map S.shown (hits S.hit (left S b))
  at_or_after_lem =
      hits_map S.shown (at_or_after b) (hits S.hit S.starts)
      ∙ ap (map S.shown) (hits_hits (λ (s : Start). at_or_after b (S.shown s)) S.hit S.starts)

  pub first_pairs_lem : (r : ℕ) → first_pairs r b (listed S) ≡ found S r b
  first_pairs_lem r = rw at_or_after_lem (take_map S.shown r (hits S.hit (left S b)) ∙ ap (map S.shown) (sym (page_take S.hit r (left S b))))

-- a page has no more looks than the whole list
pub page_within : {Start : Type 0} (S : Search Start) (r : ℕ) (b : Bookmark) → spent S r b ≤ all_looks S
page_within {Start} S r b =
    le_trans (page_looks_le S.hit S.looks r (left S b)) (sum_hits S.looks (λ (s : Start). at_or_after b (S.shown s)) S.starts)

module _ {Start : Type 0} {S : Search Start} {r : ℕ} {call : Bookmark → Lent → Leaf} (calls : Calls S r call) (b : Bookmark) where
  -- if the room was filled, and if not
  goes : length (found S r b) ≡ r → ((told calls b).finished ≡ false) × ((told calls b).next ≡ raised (last_pair (found S r b)))
  goes e =
      let full = le-leb r (length (found S r b)) (omega (arith, e)) in
      let f = sym (full_is S calls.right r calls.some_room b) ∙ full in (
        ap not full,
        next_is S calls.right r calls.some_room b f
            ∙ after_raised (within_near calls.right.narrow (last_within S calls.right r calls.some_room b f)),
      )

  stops : length (found S r b) < r
      → ((told calls b).finished ≡ true) × ((told calls b).next ≡ record { column = column_at (S.columns + 1); shift = S.range.lowest })
  stops h =
      let f = lt-leb r (length (found S r b)) h in
      (ap not f, rw (f, lt-ltb S.columns 65535 calls.right.few))

  module _ (i : InRange S.range S.columns b) (buffers : Lent) (room : Room r buffers) where
    pub call_page : PageOf (listed S) S.range S.columns (spent S (length buffers.columns) b) b buffers (call b buffers)
    call_page =
        let e = call_leaf calls b i buffers room in
        let p : first_pairs (length buffers.columns) b (listed S) ≡ found S r b =
        first_pairs_lem S b (length buffers.columns) ∙ ap (λ (k : ℕ). found S k b) room.of_columns in
        record {
          turn = told calls b;
          answered = call_answer calls b i buffers room;
          count = sym (ap length p);
          front = call_read calls b i buffers room ∙ sym p;
          kept = ap (λ (l : Leaf). behind (length (found S r b)) l.buffers) e ∙ kept_behind buffers (found S r b);
          looked = ap (λ (k : ℕ). spent S k b) (sym room.of_columns);
          goes_on = λ f. let g = goes (f ∙ room.of_columns) in (g.0, g.1 ∙ ap (λ (l : List Pair). raised (last_pair l)) (sym p));
          ends = λ h. stops (omega (arith, h, room.of_columns));
        }
