-- Demand 3, the list: a call that promises what a plain call does turns the pages of the plain search, and so lists all pairs
-- that stand; a quick one with the score's own sets lists the same. The idea: what meets a promise is the defined answer.
-- Assumes nothing.
use mathlib.Core.Path.{◌≡◌, sym, ap₂, ◌∙◌, subst}
use mathlib.Core.List.{List, ◌∷◌, Memᴰ as In}
use Prim.Native.Nat.{ℕ, ◌+◌, ◌/◌, ◌≤◌}
use native.Mathlib.Nat.{le_trans}
use native.Mathlib.Omega.{arith}
use lib.ListN.{length}
use Rattle.score.specs.Score.{score_of}
use Rattle.score.specs.Sets.{sets}
use Rattle.summing.specs.declared.summary.Summary.{Summary}
use Rattle.preparing.specs.Preparing.{Prepares}
use Rattle.ways.specs.declared.way.Way.{Way}
use Rattle.ways.specs.declared.way.AnyWay.{AnyWay}
use Rattle.ways.specs.declared.way.AnyWay.TheVariants.{Moved}
use Rattle.ways.specs.declared.bookmark.Pair.{Pair}
use Rattle.ways.specs.declared.bookmark.Bookmark.{Bookmark}
use Rattle.ways.specs.Way.{range_as}
use Rattle.ways.specs.Bookmarks.{first_bookmark}
use Rattle.asking.specs.Limits.{most_notes}
use Rattle.asking.specs.Asking.{Accepted}
use Rattle.filter.specs.Limits.{word_bits}
use Rattle.filter.specs.Table.{theme_table}
use Rattle.paging.specs.Lent.{Lent}
use Rattle.paging.specs.Order.{Ordered}
use Rattle.paging.specs.Page.{Leaf, Pages}
use Rattle.paging.specs.Listing.{Lists}
use Rattle.paging.proofs.Orders.{ordered_once, ordered_behind}
use Rattle.paging.proofs.Paging.{Calls}
use Rattle.paging.proofs.Readings.{search_lists}
use Rattle.search.specs.Pairs.{quick_search, search_as, pairs_as}
use Rattle.search.specs.WholeList.{candidate_looks, most_looks}
use Rattle.search.proofs.AllWays.{as_stands, stands_as, ordered_as}
use Rattle.search.proofs.Searches.{plain_calls, quick_calls}
use Rattle.search.proofs.Quicker.{own_sets, own_listed}
use Rattle.search.proofs.WholeLists.{all_looks_le, quick_looks_less}
use Rattle.demands.specs.Demands.{PlainCall, QuickCall, ListsAll}
use Rattle.demands.proofs.True.{own_sets_left}
use Rattle.std.specs.Prelude.{Result, Ok, Err}
use Rattle.paging.specs.declared.page.Turn.{Turn}
use Rattle.score.specs.declared.refusals.Refusal.{Refusal}

-- what meets the promise of a page is that page
pub pages_leaf : {page leaf : Leaf} → Pages page leaf.answer leaf.buffers → leaf ≡ page
pages_leaf p = ap₂ (λ (x : Result Turn Refusal) (l : Lent). record { answer = x; buffers = l }) p.answers p.writes

module _ (cells : List ℕ) (h : ℕ) (theme : List ℕ) (a : Accepted most_notes cells h theme) (r : ℕ) (room : 1 ≤ r) where
  abbrev score : List (List ℕ)
  score = score_of cells h

  -- ---- a call that meets its promise turns the pages of its search

  pub plainly : (way : AnyWay) {call : Bookmark → Lent → Leaf} → PlainCall cells h theme way call → Calls (search_as way score theme) r call
  plainly way p =
      let c = plain_calls cells h theme way a r room in
      record {
        right = c.right;
        some_room = room;
        turns = λ b buffers i m. pages_leaf (p b buffers).pages ∙ c.turns b buffers i m;
      }

  quickly : (way : Way) {call : Bookmark → Lent → Leaf} → QuickCall cells h theme way (sets score) call
      → Calls (quick_search word_bits way score theme (theme_table word_bits theme) (sets score)) r call
  quickly way q =
      let c = quick_calls cells h theme way a r room (sets score) own_sets q.table q.long in
      record {
        right = c.right;
        some_room = room;
        turns = λ b buffers i m. pages_leaf (q.promises b buffers).pages ∙ c.turns b buffers i m;
      }

  -- ---- and so lists all pairs that stand

  lists_all : (way : AnyWay) {call : Bookmark → Lent → Leaf} {spent : ℕ} → Lists call r (first_bookmark (range_as way)) (pairs_as way score theme) spent
      → spent ≤ most_looks cells h theme → ListsAll cells h theme way r call
  lists_all way l few =
      record {
        read = l.read;
        exactly = λ reading pair. let e = l.joined reading in (
          λ m. as_stands way score theme (omega (arith, a.notes_some)) (subst (In pair) e m),
          λ s. subst (In pair) (sym e) (stands_as way score theme (omega (arith, a.notes_some)) s),
        );
        ordered = λ reading. subst Ordered (sym (l.joined reading)) (ordered_as way score theme (omega (arith, a.notes_some)));
        once = λ reading before pair behind e m.
            ordered_once pair behind (ordered_behind before (pair ∷ behind) (subst Ordered (sym (l.joined reading) ∙ e) (ordered_as way score theme (omega (arith, a.notes_some))))) m;
        counted = λ {pages} {turns} reading.
            subst (λ (list : List Pair). length pages ≡ length list / r + 1) (sym (l.joined reading)) (l.counted reading);
        looked = λ reading. omega (arith, l.looked reading, few);
      }

  pub plain_all : (way : AnyWay) {call : Bookmark → Lent → Leaf} → PlainCall cells h theme way call → ListsAll cells h theme way r call
  plain_all way p = lists_all way (search_lists (plainly way p)) (all_looks_le cells h theme way)

  module _ (way : Way) where
    pub quick_own : {call : Bookmark → Lent → Leaf} → QuickCall cells h theme way (sets score) call → ListsAll cells h theme (Moved way) r call
    quick_own {call} q =
        lists_all (Moved way)
        (subst (λ (list : List Pair). Lists call r (first_bookmark (range_as (Moved way))) list (candidate_looks way score theme (sets score)))
        (own_listed cells h theme way a) (search_lists (quickly way q)))
        (le_trans (quick_looks_less cells h theme way word_bits (theme_table word_bits theme) (sets score)) (all_looks_le cells h theme (Moved way)))

    -- with the sets that a preparation left
    pub own_call : {lent after : List ℕ} {s : Summary} {call : Bookmark → Lent → Leaf} → Prepares cells h lent (Ok s) after → QuickCall cells h theme way after call
        → QuickCall cells h theme way (sets score) call
    own_call {call = call} p q = subst (λ (s : List ℕ). QuickCall cells h theme way s call) (own_sets_left p) q
