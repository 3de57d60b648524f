-- One page more of a search that is written out, and the end of it: the lines of its pairs follow those so far, and all of them
-- have room. Which pairs and looks they are is a law of `paging` (`UnderWay`). Assumes nothing.
use mathlib.Core.Path.{◌≡◌, sym, ap, ◌∙◌, subst}
use mathlib.Core.Bool.{Bool, true, false, not}
use mathlib.Core.List.{List, ◌++◌, map}
use Prim.Native.Nat.{ℕ, ◌+◌, ◌^◌, ◌≤◌, ◌<◌}
use native.Mathlib.Omega.{arith}
use lib.ListN.{length, length-append}
use Rattle.theory.specs.Pages.{hits}
use Rattle.score.specs.declared.refusals.Refusal.{Refusal}
use Rattle.score.specs.Limits.{table_words}
use Rattle.score.specs.Score.{score_of}
use Rattle.ways.specs.declared.way.AnyWay.{AnyWay}
use Rattle.ways.specs.declared.bookmark.Pair.{Pair}
use Rattle.ways.specs.declared.bookmark.Bookmark.{Bookmark}
use Rattle.paging.specs.declared.page.Turn.{Turn}
use Rattle.paging.specs.Lent.{Lent, Room as PairsRoom, read_pairs}
use Rattle.paging.specs.Search.{Search}
use Rattle.paging.proofs.Paging.{Calls}
use Rattle.paging.proofs.UnderWay.{UnderWay, to_come, turns_left, under_way_listed, under_way_paid, under_way_few, under_way_within, page_accepted, page_count, page_few, page_less, page_turned}
use Rattle.search.specs.Pairs.{StartAs, pairs_as}
use Rattle.telling.specs.Lines.{hit_lines, end_line, told_looks, lines_of}
use Rattle.telling.specs.Limits.{room, page_pairs, most_pairs}
use Rattle.telling.specs.Steps.{Wrote, PageTold}
use Rattle.telling.proofs.Puts.{wrote_then, wrote_room}
use Rattle.telling.proofs.Searching.{search_of, lines_append, pairs_few, looks_few, lines_few, Paging, own_list, own_looks, call_of, calls}
use Rattle.std.specs.Prelude.{Result, Ok, Err}

module _ (cells : List ℕ) (h : ℕ) (theme : List ℕ) (way : AnyWay) (lent out₀ : List ℕ) where
  abbrev S : Search (StartAs way)
  S = search_of cells h theme way lent

  -- ---- what was read, and what is to come, has room

  module _ {table : List ℕ} {buffers : Lent} {out : List ℕ} {b : Bookmark} {at found spent : ℕ} {more : Bool}
      (p : Paging cells h theme way lent out₀ table buffers out b at found spent more) where
    all_room : length (hit_lines (pairs_as way (score_of cells h) theme)) ≤ room
    unfolding lines_of
    all_room =
        omega (
          arith,
          lines_few cells h theme p.accepted way,
          length-append (hit_lines (pairs_as way (score_of cells h) theme))
              (end_line (length (pairs_as way (score_of cells h) theme)) (told_looks way (score_of cells h) theme)),
        )

    -- the lines of any pairs so far
    done_room : {c : Bookmark} {on : Bool} (done : List Pair) {paid : ℕ} → UnderWay S c on done paid → length (hit_lines done) ≤ room
    done_room {c} {on} done u =
        let after = map S.shown (hits S.hit (to_come S c on)) in
        omega (
          arith,
          all_room,
          ap (λ (l : List Pair). length (hit_lines l)) (sym (own_list cells h theme way lent p.accepted p.own) ∙ u.parts),
          ap length (lines_append done after),
          length-append (hit_lines done) (hit_lines after),
        )

    done_few : {c : Bookmark} {on : Bool} {done : List Pair} {paid : ℕ} → UnderWay S c on done paid → length done ≤ most_pairs
    done_few u =
        omega (
          arith,
          under_way_few S u,
          ap length (own_list cells h theme way lent p.accepted p.own),
          pairs_few cells h theme p.accepted way,
        )

  -- ---- a page is turned

  module _ {table : List ℕ} {buffers : Lent} {out : List ℕ} {b : Bookmark} {at found spent : ℕ}
      (p : Paging cells h theme way lent out₀ table buffers out b at found spent true) where
    c : Calls S page_pairs (call_of cells h theme way lent p.accepted p.own table)
    c = calls cells h theme way lent p.accepted p.own table p.room.table_long

    module _ {page : Result Turn Refusal} {after : Lent} (q : PageTold cells h theme way b lent table buffers page after) where
      -- it is never refused
      pub turn_refused : {r : Refusal} → page ≡ Err r → ⊥
      turn_refused e = page_accepted c b p.under_way.marked buffers p.room.pairs_room q.pages e

      module _ {t : Turn} (e : page ≡ Ok t) where
        abbrev read : List Pair
        read = read_pairs t.written after

        next : UnderWay S t.next (not t.finished) (p.done ++ read) (spent + t.looks)
        next = page_turned c b p.under_way.marked buffers p.room.pairs_room q.pages e p.under_way

        counts : length read ≡ t.written
        counts = page_count c b p.under_way.marked buffers p.room.pairs_room q.pages e

        pub turn_written : t.written ≤ page_pairs
        turn_written = page_few c b p.under_way.marked buffers p.room.pairs_room q.pages e

        pub turn_room : at + length (hit_lines read) ≤ length out
        turn_room =
            wrote_room p.wrote (hit_lines read)
            (omega (
              arith,
              p.room.out_long,
              done_room p (p.done ++ read) next,
              ap length (lines_append p.done read),
              length-append (hit_lines p.done) (hit_lines read),
            ))

        pub turn_found : found + t.written ≤ most_pairs
        turn_found = omega (arith, done_few p next, length-append p.done read, counts, p.counted)

        pub turn_looks : spent + t.looks < 2 ^ 32
        turn_looks = omega (arith, under_way_within S next, looks_few cells h theme p.accepted way lent)

        pub turn_less : turns_left S t.next (not t.finished) < turns_left S b true
        turn_less = page_less c b p.under_way.marked buffers p.room.pairs_room q.pages e

        pub turn_more : {table' : List ℕ} {at' : ℕ} {out' : List ℕ} → length table' ≡ table_words → PairsRoom page_pairs after → Wrote (hit_lines read) at out at' out'
            → Paging cells h theme way lent out₀ table' after out' t.next at' (found + t.written) (spent + t.looks) (not t.finished)
        turn_more long of-pairs w =
            record {
              accepted = p.accepted;
              own = p.own;
              room = record { table_long = long; pairs_room = of-pairs; out_long = p.room.out_long };
              done = p.done ++ read;
              under_way = next;
              wrote = rw (lines_append p.done read) (wrote_then p.wrote w);
              counted = omega (arith, p.counted, counts, length-append p.done read);
            }

  -- ---- no page is left

  module _ {table : List ℕ} {buffers : Lent} {out : List ℕ} {b : Bookmark} {at found spent : ℕ}
      (p : Paging cells h theme way lent out₀ table buffers out b at found spent false) where
    done_all : p.done ≡ pairs_as way (score_of cells h) theme
    done_all = under_way_listed S p.under_way ∙ own_list cells h theme way lent p.accepted p.own

    end_found : found ≡ length (pairs_as way (score_of cells h) theme)
    end_found = p.counted ∙ ap length done_all

    end_spent : spent ≡ told_looks way (score_of cells h) theme
    end_spent = under_way_paid S p.under_way ∙ own_looks cells h theme way lent p.accepted p.own

    end_lines : hit_lines p.done ++ end_line found spent ≡ lines_of way (score_of cells h) theme
    unfolding lines_of
    end_lines = rw (done_all, end_found, end_spent)

    pub end_room : at + length (end_line found spent) ≤ length out
    end_room = wrote_room p.wrote (end_line found spent) (omega (arith, ap length end_lines, lines_few cells h theme p.accepted way, p.room.out_long))

    pub end_wrote : {r : ℕ} {out' : List ℕ} → Wrote (end_line found spent) at out r out' → Wrote (lines_of way (score_of cells h) theme) 0 out₀ r out'
    end_wrote {r} {out'} w = subst (λ (l : List ℕ). Wrote l 0 out₀ r out') end_lines (wrote_then p.wrote w)
