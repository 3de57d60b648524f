-- From the walk to the page: what is accepted is what the walk asks for, the starts that the search has left from a bookmark on
-- are the columns behind those passed, and the answer that is read off the buffers is the page's. Assumes nothing.
use mathlib.Core.Path.{◌≡◌, refl, sym, ap, ◌∙◌}
use mathlib.Core.Bool.{Bool, true, false, not, ◌&&◌, ◌||◌}
use mathlib.Core.List.{List, [], ◌∷◌, map}
use Prim.Native.Nat.{ℕ, ◌+◌, ◌-◌, ◌≤◌, ◌<◌}
use native.Mathlib.Decide.{dec_le}
use native.Mathlib.Omega.{arith}
use lib.Dec.{leb, ltb, eqb}
use lib.IntN.{ℤ, pos}
use lib.ListN.{length, length-map}
use lib.Signed.{lt_z}
use borrow.Author.Tests.{le-leb, lt-leb, ltb-true, ltb-false, eqb-true, eqb-false}
use Rattle.theory.specs.Lists.{over, count}
use Rattle.theory.specs.Pages.{hits, page_hits}
use Rattle.theory.proofs.Either.{either}
use Rattle.theory.proofs.Lists.{count_append, map_twice, none_over}
use Rattle.theory.proofs.Pages.{hits_append}
use Rattle.theory.proofs.Counts.{count_none}
use Rattle.theory.proofs.Hits.{hits_all, hits_same}
use Rattle.theory.proofs.Integers.{not_le_z}
use Rattle.theory.proofs.Looks.{page_looks_le, sum_none}
use Rattle.theory.proofs.Members.{in_count}
use Rattle.score.specs.declared.refusals.Refusal.{Refusal}
use Rattle.score.specs.Refusals.{Row, verdict}
use Rattle.score.specs.Score.{column_at, columns_in, score_of}
use Rattle.score.proofs.Columns.{columns_whole, score_length}
use Rattle.score.proofs.Judged.{verdict_clear}
use Rattle.score.proofs.Judging.{judge_away}
use Rattle.ways.specs.declared.way.AnyWay.TheVariants.{Written}
use Rattle.ways.specs.declared.bookmark.Bookmark.{Bookmark}
use Rattle.ways.specs.declared.bookmark.Pair.{Pair}
use Rattle.ways.specs.Way.{range_as}
use Rattle.ways.specs.Bookmarks.{finished_bookmark}
use Rattle.asking.specs.Asking.{PlainAsks}
use Rattle.asking.specs.Refusals.{plain_rows}
use Rattle.asking.proofs.Rows.{plain_clear}
use Rattle.paging.specs.declared.page.Turn.{Turn}
use Rattle.paging.specs.Lent.{lent, written}
use Rattle.paging.specs.Order.{at_or_after}
use Rattle.paging.specs.Search.{Search, left, found, spent}
use Rattle.paging.specs.Page.{leaf, away}
use Rattle.paging.specs.Turning.{read_turn}
use Rattle.paging.proofs.Turnings.{away_pages, went_pages}
use Rattle.written.specs.Written.{written_search, written_page, WrittenPages}
use Rattle.written.specs.Walk.{passed, Walkable, shown_from, ListsFrom}
use Rattle.std.specs.Prelude.{Result, Ok, Err}

-- ---- what is left from a bookmark on

-- a column's pair is at or after the bookmark where the column lies behind those passed
module _ (b : Bookmark) (some : 1 ≤ b.column.0) (j : ℕ) where
  abbrev c : ℕ
  c = b.column.0

  -- with a shift above 0, behind the bookmark's column; else there or behind
  later : (ltb c j || eqb c j && not true) ≡ leb (c + 1) j
  later = either (ltb c j) (λ e. rw (e, le-leb (c + 1) j (omega (arith, ltb-true c j e)))) (λ e. rw (e, lt-leb (c + 1) j (omega (arith, ltb-false c j e))) (none (eqb c j)))
    where
      none : (t : Bool) → (t && false) ≡ false
      none true = refl
      none false = refl

  there : (ltb c j || eqb c j && not false) ≡ leb (c - 1 + 1) j
  there =
      either (ltb c j) (λ e. rw (e, le-leb (c - 1 + 1) j (omega (arith, ltb-true c j e))))
      (λ e. either (eqb c j) (λ f. rw (e, f, le-leb (c - 1 + 1) j (omega (arith, eqb-true c j f))))
      (λ f. rw (e, f, lt-leb (c - 1 + 1) j (omega (arith, ltb-false c j e, eqb-false c j f)))))

  after_passed : at_or_after b (record { column = column_at j; shift = pos 0 }) ≡ leb (passed c b.shift + 1) j
  after_passed =
      ap (λ (t : Bool). ltb c j || eqb c j && t) (not_le_z b.shift (pos 0))
      ∙ either (lt_z (pos 0) b.shift) (λ e. rw e later) (λ e. rw e there)

-- the numbers from 1 to n that are above a
above : (a n : ℕ) → hits (λ j. leb (a + 1) j) (count 1 n) ≡ count (a + 1) (n - a)
above a n = pick (dec_le a n)
  where
    pick : Dec (a ≤ n) → hits (λ j. leb (a + 1) j) (count 1 n) ≡ count (a + 1) (n - a)
    pick (yes h) =
        let e : n ≡ a + (n - a) = omega arith in
        let f : 1 + a ≡ a + 1 = omega arith in
        ap (λ (k : ℕ). hits (λ j. leb (a + 1) j) (count 1 k)) e
        ∙ rw (count_append 1 a (n - a), hits_append (λ (j : ℕ). leb (a + 1) j) (count 1 a) (count (1 + a) (n - a)), count_none (λ j. leb (a + 1) j) 1 a (λ x l k. lt-leb (a + 1) x (omega arith)), f)
        (hits_all (λ (j : ℕ). leb (a + 1) j) (count (a + 1) (n - a)) (λ x m. le-leb (a + 1) x (in_count (a + 1) (n - a) m).0))
    pick (no h) =
        let e : n - a ≡ 0 = omega arith in
        rw e (count_none (λ j. leb (a + 1) j) 1 n (λ x l k. lt-leb (a + 1) x (omega arith)))

pub left_passed : (score : List (List ℕ)) (theme : List ℕ) (b : Bookmark) → 1 ≤ b.column.0
    → left (written_search score theme) b ≡ count (passed b.column.0 b.shift + 1) (length score + 1 - (length theme + passed b.column.0 b.shift))
left_passed score theme b some =
    let a = passed b.column.0 b.shift in
    let e : length score + 1 - length theme - a ≡ length score + 1 - (length theme + a) = omega arith in
    hits_same (λ (j : ℕ). at_or_after b (record { column = column_at j; shift = pos 0 })) (λ (j : ℕ). leb (a + 1) j) (count 1 (length score + 1 - length theme)) (λ j m. after_passed b some j)
    ∙ above a (length score + 1 - length theme) ∙ ap (count (a + 1)) e

-- ---- the page call

map_self : (xs : List ℕ) → map (λ (j : ℕ). j) xs ≡ xs
map_self [] = refl
map_self (x ∷ xs) = ap (λ (l : List ℕ). x ∷ l) (map_self xs)

module _ (cells : List ℕ) (h : ℕ) (theme : List ℕ) (b : Bookmark) (columns : List ℕ) (shifts : List ℤ) where
  abbrev from : ℕ
  from = passed b.column.0 b.shift

  abbrev rows : List Row
  rows = plain_rows cells h theme Written b columns shifts

  -- what was checked is asked right
  pub checked : {v : Result (Unit {0}) Refusal} → v ≡ verdict rows → v ≡ Ok tt → PlainAsks cells h theme Written b columns shifts
  checked e p = (plain_clear cells h theme Written b columns shifts).1 (verdict_clear rows (sym e ∙ p))

  -- and turned away it writes nothing
  pub written_away : {v : Result (Unit {0}) Refusal} {r : Refusal} → v ≡ verdict rows → v ≡ Err r → WrittenPages cells h theme b (lent columns shifts) (Err r) (lent columns shifts)
  unfolding written_page
  written_away e p =
      record {
        pages = away_pages rows (written_search (score_of cells h) theme) b (lent columns shifts)
            (judge_away (away (lent columns shifts)) (leaf (written_search (score_of cells h) theme) b (lent columns shifts)) rows (sym e ∙ p)) refl;
      }

  module _ (a : PlainAsks cells h theme Written b columns shifts) where
    pub walkable : Walkable cells h theme from columns shifts
    walkable =
        record {
          tracks = a.accepted.tracks_some;
          whole = columns_whole cells h a.accepted.columns_whole;
          columns_most = a.accepted.columns_few;
          notes = a.accepted.notes_some;
          notes_most = a.accepted.notes_few;
          sung = none_over 127 theme a.accepted.notes_good;
          same_room = a.same_room;
        }

    -- the number of columns fits 16 bits
    pub columns_fit : {n : ℕ} → n ≡ columns_in cells h → n < 65536
    columns_fit e = omega (arith, e, a.accepted.columns_few)

    -- what the walk left is what the page shows
    pub written_turns : {count : ℕ} {columns' : List ℕ} {shifts' : List ℤ} → ListsFrom cells h theme from columns shifts count columns' shifts'
        → {n : ℕ} {t : Turn} → n ≡ columns_in cells h → t ≡ read_turn (finished_bookmark (range_as Written) (column_at n)) count 0 (lent columns' shifts')
        → WrittenPages cells h theme b (lent columns shifts) (Ok t) (lent columns' shifts')
    unfolding written_page
    written_turns {count} l {n} {t} is e =
        record {
          pages = went_pages rows S b (lent columns shifts) (length columns) a.room (record { of_columns = refl; of_shifts = a.same_room })
              ((plain_clear cells h theme Written b columns shifts).0 a) counted none
              (rw (l.in_columns, l.in_shifts) placed)
              (rw (is ∙ sym (score_length cells h)) at e);
        }
      where
        S : Search ℕ
        S = written_search (score_of cells h) theme

        shown : List ℕ
        shown = shown_from (score_of cells h) theme from (length columns)

        these : found S (length columns) b ≡ map S.shown shown
        these = ap (λ (xs : List ℕ). map S.shown (page_hits S.hit (length columns) xs)) (left_passed (score_of cells h) theme b a.marked.from_first)

        counted : count ≡ length (found S (length columns) b)
        counted = l.counted ∙ sym (ap length these ∙ length-map shown S.shown)

        none : 0 ≡ spent S (length columns) b
        none = omega (arith, page_looks_le S.hit S.looks (length columns) (left S b), sum_none (left S b))

        placed : lent (over columns shown) (over shifts (map (λ j. pos 0) shown)) ≡ written (lent columns shifts) (found S (length columns) b)
        placed =
            rw (these, map_twice S.shown (λ (p : Pair). p.column.0) shown, map_twice S.shown (λ (p : Pair). p.shift) shown, map_self shown)
