-- A loop that reads page after page, under way: the pairs so far, and what is left at the bookmark, make the list, and so do the looks. Laws:
-- start, one page more (`page_turned`), end, and a number that falls. The idea: a page has the first hits that are left, and the
-- bookmark returned stands for the others. Assumes nothing.
use mathlib.Core.Path.{◌≡◌, sym, ap, ◌∙◌, subst}
use mathlib.Core.Bool.{Bool, true, false, cond, not}
use mathlib.Core.List.{List, [], ◌++◌, map, map-append, append_assoc, append-nil}
use Prim.Native.Nat.{ℕ, suc, ◌+◌, ◌≤◌, ◌<◌}
use native.Mathlib.Nat.{add-zero, zero-add}
use native.Mathlib.Omega.{arith}
use lib.ListN.{length, length-map, length-append, take-append-drop}
use Rattle.theory.specs.Lists.{sum}
use Rattle.theory.specs.Pages.{hits, page_hits, rest}
use Rattle.theory.proofs.Either.{either}
use Rattle.theory.proofs.Pages.{page_take, rest_drop, rest_nil, length_last, rest_less}
use Rattle.theory.proofs.Looks.{looks_split}
use Rattle.theory.proofs.Going.{page_le}
use Rattle.score.specs.declared.refusals.Refusal.{Refusal}
use Rattle.ways.specs.declared.bookmark.Pair.{Pair}
use Rattle.ways.specs.declared.bookmark.Bookmark.{Bookmark}
use Rattle.ways.specs.Bookmarks.{first_bookmark}
use Rattle.asking.specs.Asking.{InRange}
use Rattle.paging.specs.declared.page.Turn.{Turn}
use Rattle.paging.specs.Lent.{Lent, Room, read_pairs}
use Rattle.paging.specs.Search.{Search, Right, listed, all_looks, left, found}
use Rattle.paging.specs.Page.{Leaf, Pages}
use Rattle.paging.proofs.Answers.{turned_refused}
use Rattle.paging.proofs.Bookmarks.{first_range}
use Rattle.paging.proofs.Paging.{Calls, is_full, told, turned_same, finished_is, left_first, next_left, next_range, call_answer, call_read}
use Rattle.std.specs.Prelude.{Result, Ok, Err}

-- what is left of a search: all at the bookmark, or nothing where no page is left
module _ {Start : Type 0} (S : Search Start) where
  abbrev pub to_come : Bookmark → (more : Bool) → List Start
  to_come b more = cond more (left S b) []

  -- a bound on the pages that are left: none, or one more than the hits
  abbrev pub turns_left : Bookmark → (more : Bool) → ℕ
  turns_left b more = cond more (suc (length (hits S.hit (left S b)))) 0

-- these pairs were read, with these looks, and it goes on from b where more is to come
pub record UnderWay {Start : Type 0} (S : Search Start) (b : Bookmark) (more : Bool) (done : List Pair) (paid : ℕ) : Type 0 where
  pub marked : InRange S.range S.columns b
  pub parts : listed S ≡ done ++ map S.shown (hits S.hit (to_come S b more))
  pub looks_are : all_looks S ≡ paid + sum (map S.looks (to_come S b more))

module _ {Start : Type 0} (S : Search Start) where
  pub under_way_start : Right S → UnderWay S (first_bookmark S.range) true [] 0
  under_way_start right =
      let all = left_first S right in
      record {
        marked = first_range right.narrow S.columns;
        parts = ap (λ (l : List Start). map S.shown (hits S.hit l)) (sym all);
        looks_are = sym (zero-add _ ∙ ap (λ (l : List Start). sum (map S.looks l)) all);
      }

  -- no page is left: all was read
  module _ {b : Bookmark} {done : List Pair} {paid : ℕ} (u : UnderWay S b false done paid) where
    pub under_way_listed : done ≡ listed S
    under_way_listed = sym (u.parts ∙ append-nil done)

    pub under_way_paid : paid ≡ all_looks S
    under_way_paid = sym (u.looks_are ∙ add-zero paid)

  -- never more than the whole
  module _ {b : Bookmark} {more : Bool} {done : List Pair} {paid : ℕ} (u : UnderWay S b more done paid) where
    pub under_way_few : length done ≤ length (listed S)
    under_way_few = omega (arith, ap length u.parts, length-append done (map S.shown (hits S.hit (to_come S b more))))

    pub under_way_within : paid ≤ all_looks S
    under_way_within = omega (arith, u.looks_are)

-- ---- one page more

module _ {Start : Type 0} {S : Search Start} {r : ℕ} {call : Bookmark → Lent → Leaf} (calls : Calls S r call) (b : Bookmark) (i : InRange S.range S.columns b) where
  abbrev filled : Bool
  filled = is_full S calls.right r calls.some_room b

  -- what is to come after it is what the page leaves
  rest_to_come : to_come S (told calls b).next (not (told calls b).finished) ≡ rest S.hit r (left S b)
  rest_to_come =
      rw (finished_is S calls.right r calls.some_room b)
      (either filled (λ e. rw e (next_left S calls.right r calls.some_room b e i))
      (λ e. rw e (sym (rest_nil S.hit r (left S b) (length_last S.hit r (left S b) e)))))

  -- fewer turns are left
  turns_less : turns_left S (told calls b).next (not (told calls b).finished) < turns_left S b true
  turns_less =
      rw (finished_is S calls.right r calls.some_room b)
      (either filled
      (λ e. rw e
      (omega (
        arith,
        ap (λ (l : List Start). length (hits S.hit l)) (next_left S calls.right r calls.some_room b e i),
        rest_less S.hit r (left S b) calls.some_room e,
      )))
      (λ e. rw e (omega arith)))

  -- the hits of a page, and of what is left
  page_rest : map S.shown (hits S.hit (left S b)) ≡ found S r b ++ map S.shown (hits S.hit (rest S.hit r (left S b)))
  page_rest =
      let e : hits S.hit (left S b) ≡ page_hits S.hit r (left S b) ++ hits S.hit (rest S.hit r (left S b)) =
      sym (rw (page_take S.hit r (left S b), rest_drop S.hit r (left S b)) (take-append-drop r (hits S.hit (left S b)))) in
      ap (map S.shown) e ∙ map-append S.shown (page_hits S.hit r (left S b)) (hits S.hit (rest S.hit r (left S b)))

  module _ (buffers : Lent) (room : Room r buffers) {page : Result Turn Refusal} {after : Lent} (q : Pages (call b buffers) page after) where
    -- it is never refused
    pub page_accepted : {e : Refusal} → page ≡ Err e → ⊥
    page_accepted e = turned_refused (sym (q.answers ∙ call_answer calls b i buffers room) ∙ e)

    module _ {t : Turn} (e : page ≡ Ok t) where
      turn_is : t ≡ told calls b
      turn_is = turned_same (sym e ∙ q.answers ∙ call_answer calls b i buffers room)

      -- the pairs of the page, as they stand in the buffers
      read_is : read_pairs t.written after ≡ found S r b
      read_is = rw (q.writes, turn_is) (call_read calls b i buffers room)

      pub page_count : length (read_pairs t.written after) ≡ t.written
      page_count = ap length read_is ∙ sym (ap (λ (u : Turn). u.written) turn_is)

      pub page_few : t.written ≤ r
      page_few = omega (arith, ap (λ (u : Turn). u.written) turn_is, length-map (page_hits S.hit r (left S b)) S.shown, page_le S.hit r (left S b))

      pub page_less : turns_left S t.next (not t.finished) < turns_left S b true
      page_less = subst (λ (u : Turn). turns_left S u.next (not u.finished) < turns_left S b true) (sym turn_is) turns_less

      pub page_turned : {done : List Pair} {paid : ℕ} → UnderWay S b true done paid
          → UnderWay S t.next (not t.finished) (done ++ read_pairs t.written after) (paid + t.looks)
      page_turned {done} {paid} u =
          let to_come_lem : to_come S t.next (not t.finished) ≡ rest S.hit r (left S b) =
          ap (λ (x : Turn). to_come S x.next (not x.finished)) turn_is ∙ rest_to_come in
          record {
            marked = subst (λ (x : Turn). InRange S.range S.columns x.next) (sym turn_is) (next_range S calls.right r calls.some_room b);
            parts =
                u.parts
                ∙ ap (λ (l : List Pair). done ++ l) page_rest
                ∙ sym (append_assoc done (found S r b) (map S.shown (hits S.hit (rest S.hit r (left S b)))))
                ∙ rw (to_come_lem, read_is);
            looks_are =
                rw to_come_lem
                (omega (arith, u.looks_are, looks_split S.hit S.looks r (left S b), ap (λ (x : Turn). x.looks) turn_is));
          }
