-- Reading page after page, over any call that turns the pages of a right search: whatever the buffers held, the pages are those of the list
-- (joined, counted, paid), and there is a reading for every supply of buffers. `search_lists` is what it comes to from the first
-- bookmark. The idea: the bookmark returned stands for what is left of the list. Assumes nothing.
use mathlib.Core.Path.{◌≡◌, refl, sym, ap, ◌∙◌, subst}
use mathlib.Core.Bool.{Bool, true, false, not}
use mathlib.Core.List.{List, [], ◌∷◌, map}
use Prim.Native.Nat.{ℕ, zero, suc, ◌+◌, ◌/◌, ◌<◌}
use native.Mathlib.Nat.{not-suc-le-zero, le_refl}
use native.Mathlib.Omega.{arith}
use lib.ListN.{length, length-map}
use borrow.Author.Tests.{not-true, not-false}
use Rattle.theory.specs.Lists.{sum, join}
use Rattle.theory.specs.Pages.{hits, page_hits}
use Rattle.theory.proofs.Either.{either}
use Rattle.theory.proofs.Pages.{rest_less}
use Rattle.theory.proofs.Lists.{join_map}
use Rattle.theory.proofs.Readings.{Reading as Walk, last as walk-last, more as Walk-more, reading_join, reading_count, reading_looks}
use Rattle.ways.specs.declared.bookmark.Pair.{Pair}
use Rattle.ways.specs.declared.bookmark.Bookmark.{Bookmark}
use Rattle.ways.specs.Bookmarks.{first_bookmark}
use Rattle.asking.specs.Asking.{InRange}
use Rattle.paging.specs.declared.page.Turn.{Turn}
use Rattle.paging.specs.Lent.{Lent, Room}
use Rattle.paging.specs.Search.{Search, listed, all_looks, left, found, spent}
use Rattle.paging.specs.Page.{Leaf}
use Rattle.paging.specs.Reading.{Turns, Reading, last, more}
use Rattle.paging.specs.Listing.{Read, Lists}
use Rattle.paging.proofs.Bookmarks.{first_range}
use Rattle.paging.proofs.Paging.{Calls, is_full, finished_is, told, left_first, next_left, next_range, call_turns, turns_same}

-- the pages and the turns of a reading from b on, as a walk along the starts that are left there
pub record Walked {Start : Type 0} (S : Search Start) (r : ℕ) (b : Bookmark) (pages : List (List Pair)) (turns : List Turn) : Type 0 where
  pub out : List (List Start)
  pub paid : List ℕ
  pub walk : Walk S.hit S.looks r (left S b) out paid
  pub pages_are : pages ≡ map (map S.shown) out
  pub looks_are : map (λ (t : Turn). t.looks) turns ≡ paid

module _ {Start : Type 0} {S : Search Start} {r : ℕ} {call : Bookmark → Lent → Leaf} (calls : Calls S r call) where
  abbrev inside : Bookmark → Type 0
  inside b = InRange S.range S.columns b

  abbrev filled : Bookmark → Bool
  filled b = is_full S calls.right r calls.some_room b

  -- whether a page is full is read off its answer
  answer_full : (b : Bookmark) {t : Turn} → t ≡ told calls b → not (filled b) ≡ t.finished
  answer_full b e = sym (ap (λ (u : Turn). u.finished) e ∙ finished_is S calls.right r calls.some_room b)

  -- the last page, and one page more
  read_last : (b : Bookmark) {t : Turn} {pairs : List Pair} → inside b → Turns call r b t pairs → t.finished ≡ true → Walked S r b (pairs ∷ []) (t ∷ [])
  read_last b i p e =
      let s = turns_same calls i p in
      record {
        out = page_hits S.hit r (left S b) ∷ [];
        paid = spent S r b ∷ [];
        walk = walk-last (not-true (filled b) (answer_full b s.0 ∙ e));
        pages_are = ap (λ (l : List Pair). l ∷ []) s.1;
        looks_are = ap (λ (u : Turn). u.looks ∷ []) s.0;
      }

  read_more : (b : Bookmark) {t : Turn} {pairs : List Pair} (pages : List (List Pair)) (turns : List Turn) → inside b → Turns call r b t pairs
      → t.finished ≡ false → Walked S r t.next pages turns → Walked S r b (pairs ∷ pages) (t ∷ turns)
  read_more b pages turns i p e next =
      let s = turns_same calls i p in
      let f : filled b ≡ true = not-false (filled b) (answer_full b s.0 ∙ e) in
      record {
        out = page_hits S.hit r (left S b) ∷ next.out;
        paid = spent S r b ∷ next.paid;
        walk =
            Walk-more f
            (subst (λ (l : List Start). Walk S.hit S.looks r l next.out next.paid)
            (ap (λ (u : Turn). left S u.next) s.0 ∙ next_left S calls.right r calls.some_room b f i) next.walk);
        pages_are = rw (s.1, next.pages_are);
        looks_are = rw (s.0, next.looks_are);
      }

  pub reading_walk : {b : Bookmark} {pages : List (List Pair)} {turns : List Turn} → inside b → Reading call r b pages turns → Walked S r b pages turns
  reading_walk {b} i (last p e) = read_last b i p e
  reading_walk {b} i (more {pages = pages} {turns = turns} p e reading) =
      read_more b pages turns i p e
      (reading_walk (subst (λ (u : Turn). inside u.next) (sym (turns_same calls i p).0) (next_range S calls.right r calls.some_room b)) reading)

  -- ---- for every supply of buffers of that room there is a reading, each of whose calls was lent its buffers

  module _ (supply : ℕ → Lent) (room : (i : ℕ) → Room r (supply i)) where
    -- by the hits that are left
    read_fuel : (fuel k : ℕ) (b : Bookmark) → inside b → length (hits S.hit (left S b)) < fuel → Read supply call r k b
    read_fuel zero k b i h = absurd (not-suc-le-zero h)
    read_fuel (suc fuel) k b i h =
        either (filled b) (page_more (read_fuel fuel (suc k) (told calls b).next (next_range S calls.right r calls.some_room b))) page_last
      where
        page_more : (length (hits S.hit (left S (told calls b).next)) < fuel → Read supply call r (suc k) (told calls b).next) → filled b ≡ true
            → Read supply call r k b
        page_more ih f =
            let s =
            ih (rw (next_left S calls.right r calls.some_room b f i) (omega (arith, h, rest_less S.hit r (left S b) calls.some_room f))) in
            record {
              pages = found S r b ∷ s.pages;
              turns = told calls b ∷ s.turns;
              reading = more (call_turns calls b i (supply k) (room k)) (finished_is S calls.right r calls.some_room b ∙ ap not f) s.reading;
              supplied = (refl, s.supplied);
            }

        page_last : filled b ≡ false → Read supply call r k b
        page_last f =
            record {
              pages = found S r b ∷ [];
              turns = told calls b ∷ [];
              reading = last (call_turns calls b i (supply k) (room k)) (finished_is S calls.right r calls.some_room b ∙ ap not f);
              supplied = refl;
            }

    pub reading_exists : (b : Bookmark) → inside b → Read supply call r 0 b
    reading_exists b i = read_fuel (suc (length (hits S.hit (left S b)))) 0 b i (le_refl (suc (length (hits S.hit (left S b)))))

-- ---- a reading joined, counted and paid

module _ {Start : Type 0} {S : Search Start} {r : ℕ} {call : Bookmark → Lent → Leaf} (calls : Calls S r call)
    {b : Bookmark} {pages : List (List Pair)} {turns : List Turn} (i : InRange S.range S.columns b) (reading : Reading call r b pages turns) where
  pub read_join : join pages ≡ map S.shown (hits S.hit (left S b))
  read_join =
      let d = reading_walk calls i reading in
      rw d.pages_are (join_map S.shown d.out ∙ ap (map S.shown) (reading_join S.hit S.looks r d.walk))

  pub read_count : length pages ≡ length (hits S.hit (left S b)) / r + 1
  read_count =
      let d = reading_walk calls i reading in
      rw d.pages_are (length-map d.out (map S.shown) ∙ reading_count S.hit S.looks r calls.some_room d.walk)

  pub read_looks : sum (map (λ (t : Turn). t.looks) turns) ≡ sum (map S.looks (left S b))
  read_looks =
      let d = reading_walk calls i reading in
      rw d.looks_are (reading_looks S.hit S.looks r d.walk)

-- ---- from the first bookmark the whole list is read

module _ {Start : Type 0} {S : Search Start} {r : ℕ} {call : Bookmark → Lent → Leaf} (calls : Calls S r call) where
  start : InRange S.range S.columns (first_bookmark S.range)
  start = first_range calls.right.narrow S.columns

  pub search_lists : Lists call r (first_bookmark S.range) (listed S) (all_looks S)
  search_lists =
      let first = left_first S calls.right in
      record {
        read = λ supply room. reading_exists calls supply room (first_bookmark S.range) start;
        joined = λ reading. read_join calls start reading ∙ ap (λ (l : List Start). map S.shown (hits S.hit l)) first;
        counted =
            λ reading.
            read_count calls start reading ∙ ap (λ (l : List Start). length (hits S.hit l) / r + 1) first
            ∙ ap (λ (n : ℕ). n / r + 1) (sym (length-map (hits S.hit S.starts) S.shown));
        looked = λ reading. read_looks calls start reading ∙ ap (λ (l : List Start). sum (map S.looks l)) first;
      }
