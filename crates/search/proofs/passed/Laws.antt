-- A page of a score with empty columns. What was taken out (`Took`) makes a call along the columns with a pitch that is asked
-- right, and its page, renamed, is the page of the score (`passed_turns`, `passed_quick_turns`). Assumes nothing.
use mathlib.Core.Path.{◌≡◌, refl, sym, ap, ◌∙◌, subst}
use mathlib.Core.Bool.{Bool, true, false}
use mathlib.Core.List.{List, [], ◌∷◌, map, Memᴰ as In}
use Prim.Native.Nat.{ℕ, ◌+◌, ◌-◌, ◌*◌, ◌≤◌, ◌<◌}
use native.Mathlib.Nat.{mul-le-mul_right}
use native.Mathlib.Omega.{arith}
use lib.Dec.{leb, eqb}
use lib.IntN.{ℤ}
use lib.ListN.{length, get_or, take, drop, replicate, length-map, length-take, length-replicate, get_or-eq_default}
use lib.Seq.{take-append_seam, take_all, length-take-le}
use borrow.Author.Tests.{le-leb, le-ltb, ne_eqb}
use Rattle.theory.specs.Lists.{over, first, some as any_of, join}
use Rattle.theory.proofs.Lists.{over_length, none_over, first_le}
use Rattle.theory.proofs.Members.{in_hits}
use Rattle.score.specs.Limits.{most_columns, most_cells, highest_set}
use Rattle.score.specs.Score.{column_at, columns_in, score_of, heard_of, heard_from, number_of}
use Rattle.score.specs.Refusals.{bad_set}
use Rattle.score.proofs.Columns.{columns_whole, score_length}
use Rattle.score.proofs.Heard.{heard_length}
use Rattle.score.proofs.Judged.{Clear, judge_clear}
use Rattle.score.specs.declared.refusals.Refusal.{Refusal}
use Rattle.passing.specs.Passing.{has_room, TakesOut, entry_at, KeepsSets, Renames}
use Rattle.ways.specs.declared.way.Way.{Way}
use Rattle.ways.specs.declared.way.AnyWay.{AnyWay}
use Rattle.ways.specs.declared.way.AnyWay.TheVariants.{Moved}
use Rattle.ways.specs.declared.bookmark.Bookmark.{Bookmark}
use Rattle.ways.specs.Way.{Range, range_as}
use Rattle.ways.specs.Bookmarks.{finished_bookmark}
use Rattle.asking.specs.Limits.{most_notes}
use Rattle.asking.specs.Asking.{Accepted, InRange, PlainAsks, QuickAsks}
use Rattle.asking.proofs.Rows.{plain_clear, quick_clear}
use Rattle.filter.specs.Limits.{word_bits}
use Rattle.filter.specs.Table.{theme_table}
use Rattle.paging.specs.declared.page.Turn.{Turn}
use Rattle.paging.specs.Lent.{lent}
use Rattle.paging.specs.Order.{at_or_after}
use Rattle.paging.specs.Search.{Search, Right, renamed}
use Rattle.paging.specs.Page.{Leaf, leaf, Pages}
use Rattle.paging.specs.Turning.{read_turn}
use Rattle.paging.proofs.Answers.{paged_clear, turned_refused}
use Rattle.paging.proofs.Renumbered.{renumbered_pages}
use Rattle.walking.specs.Starts.{Place, starts}
use Rattle.walking.specs.Candidates.{candidate}
use Rattle.search.specs.Pairs.{StartAs, along_as, entries_of}
use Rattle.search.specs.Page.{rows_of_plain, plain_page, PlainPages, rows_of_quick, quick_page, quick_table, QuickPages}
use Rattle.search.specs.Along.{along_page, AlongPages, quick_along, quick_along_page, QuickAlongPages, Leaves, among, InScore}
use Rattle.search.proofs.Numbers.{heard_few}
use Rattle.search.proofs.Kept.{kept_length, kept_columns, kept_score, kept_accepted, among_range, among_same}
use Rattle.search.proofs.Searches.{along_right}
use Rattle.std.specs.Prelude.{Result, Ok, Err}

-- ---- a bookmark among columns with these numbers

pub place_few : (numbers : List ℕ) (j : ℕ) {at : ℕ} → at ≡ first (λ k. leb j k) numbers → length numbers < 65535 → at + 1 < 65536
place_few numbers j e l = omega (arith, e, l, first_le (λ k. leb j k) numbers)

-- behind the numbers stands 0
pub none_stands : (numbers : List ℕ) (at number : ℕ) → length numbers ≤ at → 1 ≤ number → false ≡ eqb (get_or numbers at 0) number
none_stands numbers at number l h = rw (get_or-eq_default numbers 0 l) (sym (ne_eqb 0 number (λ e. omega arith)))

module _ (range : Range) (numbers : List ℕ) (b : Bookmark) {at : ℕ} {t : Bool} (e : at ≡ first (λ k. leb b.column.0 k) numbers) (f : t ≡ eqb (get_or numbers at 0) b.column.0) where
  pub among_here : t ≡ true → record { column = column_at (at + 1); shift = b.shift } ≡ among range numbers b
  among_here g = rw (← e, ← f, g)

  pub among_next : t ≡ false → record { column = column_at (at + 1); shift = range.lowest } ≡ among range numbers b
  among_next g = rw (← e, ← f, g)

-- ---- a page along columns as one of the score

module _ {page : Result Turn Refusal} {numbers columns : List ℕ} {shifts : List ℤ} where
  pub in_turned : {columns' : List ℕ} {t u : Turn} {last end : Bookmark} → page ≡ Ok t → Renames columns t.written numbers columns' → last ≡ end
      → u ≡ read_turn last t.written t.looks (lent columns' shifts) → InScore page end numbers columns shifts (Ok u) columns'
  in_turned e r l a = rw e (record { renames = r.renamed; answers = rw (← l) (ap Ok a) })

  pub in_refused : {r : Refusal} {end : Bookmark} → page ≡ Err r → InScore page end numbers columns shifts (Err r) columns
  in_refused e = rw e (record { renames = refl; answers = refl })

-- ---- what was taken out

-- what was written over the front is read there
front : (vs d d' : List ℕ) (k : ℕ) → d' ≡ over d vs → k ≡ length vs → take k d' ≡ vs
front vs d d' k e l = rw (l, e) (take-append_seam vs (drop (length vs) d))

module _ (cells : List ℕ) (h : ℕ) (theme : List ℕ) (a : Accepted most_notes cells h theme) where
  abbrev heards : List (List ℕ)
  heards = heard_of (score_of cells h)

  -- so many columns have a pitch; the buffers hold their cells and their numbers in front
  pub record Took (q : ℕ) (kept numbers : List ℕ) : Type 0 where
    pub many : q ≡ length heards
    pub some : 1 ≤ q
    pub few : q ≤ most_columns
    pub small : q * h ≤ most_cells
    pub cells_long : q * h ≤ length kept
    pub numbers_long : q ≤ length numbers
    pub numbers_many : length (take q numbers) ≡ q
    pub cells_front : {k : ℕ} → k ≡ q * h → take k kept ≡ join heards
    pub numbers_front : take q numbers ≡ heard_from 1 (score_of cells h)

  took : {kept numbers kept' numbers' : List ℕ} {q : ℕ} → Leaves cells h kept → length numbers ≡ most_columns
      → TakesOut cells h kept numbers q kept' numbers' → Took q kept' numbers'
  took {kept} {numbers} {kept'} {numbers'} {q} l exact t =
      record {
        many = many;
        some = omega (arith, many, l.some_heard);
        few = few;
        small = omega (arith, mul-le-mul_right h few, most);
        cells_long = omega (arith, inside, l.room, kept_same);
        numbers_long = omega (arith, few, exact, numbers_same);
        numbers_many = length-take-le q numbers' (omega (arith, few, exact, numbers_same));
        cells_front = λ {k} e. front (join (heard_of score)) kept kept' k held (e ∙ sym joined);
        numbers_front = front (heard_from 1 score) numbers numbers' q named (many ∙ sym (heard_length 1 score));
      }
    where
      score : List (List ℕ)
      score = score_of cells h

      room : has_room cells h kept numbers ≡ true
      room = rw (le-leb (length cells) (length kept) l.room, le-leb (columns_in cells h) (length numbers) (omega (arith, exact, a.columns_few)), le-leb (columns_in cells h) most_columns a.columns_few)

      many : q ≡ length (heard_of score)
      many = rw room at t.counted ∙ heard_length 1 score

      few : q ≤ most_columns
      few = omega (arith, many, heard_few score, score_length cells h, a.columns_few)

      most : most_columns * h ≤ most_cells
      most = omega (arith, a.tracks_few)

      joined : length (join (heard_of score)) ≡ q * h
      joined = kept_length most_notes cells h theme a ∙ ap (λ (n : ℕ). n * h) (sym many)

      inside : q * h ≤ length cells
      inside =
          let b : q ≤ columns_in cells h = omega (arith, many, heard_few score, score_length cells h) in
          omega (arith, mul-le-mul_right h b, columns_whole cells h a.columns_whole)

      held : kept' ≡ over kept (join (heard_of score))
      held = rw room at t.cells_kept

      named : numbers' ≡ over numbers (heard_from 1 score)
      named = rw room at t.numbered

      kept_same : length kept' ≡ length kept
      kept_same = ap length held ∙ over_length kept (join (heard_of score)) (omega (arith, joined, inside, l.room))

      numbers_same : length numbers' ≡ length numbers
      numbers_same = ap length named ∙ over_length numbers (heard_from 1 score) (omega (arith, heard_length 1 score, many, few, exact))

-- the numbers go into a buffer that is all 0
pub taken : {cells : List ℕ} {h : ℕ} {theme : List ℕ} (a : Accepted most_notes cells h theme) {kept kept' numbers' : List ℕ} {q : ℕ} → Leaves cells h kept
    → TakesOut cells h kept (replicate most_columns 0) q kept' numbers' → Took cells h theme a q kept' numbers'
taken {cells} {h} {theme} a l t = took cells h theme a l (length-replicate {A = ℕ} most_columns 0) t

-- ---- plain

module _ (cells : List ℕ) (h : ℕ) (theme : List ℕ) (way : AnyWay) (b : Bookmark) (columns : List ℕ) (shifts : List ℤ)
    (asks : PlainAsks cells h theme way b columns shifts) where
  abbrev a : Accepted most_notes cells h theme
  a = asks.accepted

  abbrev score : List (List ℕ)
  score = score_of cells h

  abbrev along : Search (StartAs way)
  along = along_as way (heard_of score) theme

  right : Right along
  right = along_right way (heard_of score) theme a.notes_some (omega (arith, heard_few score, score_length cells h, a.columns_few))

  -- the bookmark among the columns with a pitch
  abbrev b' : Bookmark
  b' = among (range_as way) (heard_from 1 score) b

  marked : InRange (range_as way) (length (heard_of score)) b'
  marked = among_range (range_as way) right.narrow score b (rw (score_length cells h) asks.marked)

  same : (s : StartAs way) → In s along.starts → at_or_after b (renamed (number_of score) (along.shown s)) ≡ at_or_after b' (along.shown s)
  same s m =
      let w = right.each s m in
      among_same (range_as way) right.narrow score b (along.shown s) w.from_first w.to_last w.not_below

  -- the call along them is asked right
  pub kept_asks : 1 ≤ length (heard_of score) → PlainAsks (join (heard_of score)) h theme way b' columns shifts
  kept_asks some =
      record {
        accepted = kept_accepted most_notes cells h theme a some;
        room = asks.room;
        same_room = asks.same_room;
        marked = rw (kept_columns most_notes cells h theme a) marked;
      }

  plain_rows : Clear (rows_of_plain cells h theme way b (lent columns shifts))
  plain_rows = (plain_clear cells h theme way b columns shifts).0 asks

  along_leaf : 1 ≤ length (heard_of score) → along_page (join (heard_of score)) h theme way b' (lent columns shifts) ≡ leaf along b' (lent columns shifts)
  unfolding along_page
  along_leaf some =
      paged_clear (rows_of_plain (join (heard_of score)) h theme way b' (lent columns shifts)) (along_as way (score_of (join (heard_of score)) h) theme) b' (lent columns shifts)
      ((plain_clear (join (heard_of score)) h theme way b' columns shifts).0 (kept_asks some))
      ∙ ap (λ (s : List (List ℕ)). leaf (along_as way s theme) b' (lent columns shifts)) (kept_score most_notes cells h theme a)

  -- a page along them, renamed and read anew
  in_score : {columns' columns'' : List ℕ} {shifts' : List ℤ} {answer : Result Turn Refusal} (page : Result Turn Refusal) → Pages (leaf along b' (lent columns shifts)) page (lent columns' shifts')
      → InScore page (finished_bookmark (range_as way) (column_at (length score))) (heard_from 1 score) columns' shifts' answer columns''
      → Pages (plain_page cells h theme way b (lent columns shifts)) answer (lent columns'' shifts')
  unfolding plain_page
  in_score (Ok u) p i =
      rw i.answers
      (renumbered_pages (length score) (number_of score) along b b' same (rows_of_plain cells h theme way b (lent columns shifts)) columns shifts asks.room asks.same_room plain_rows p
      i.renames refl)
  in_score (Err r) p i = absurd (turned_refused (sym p.answers))

  -- a page along them, renamed, is one of the score
  module _ {n q k : ℕ} {kept numbers : List ℕ} (t : Took cells h theme a q kept numbers) (counted : n ≡ columns_in cells h) (e : k ≡ q * h) where
    some_heard : 1 ≤ length (heard_of score)
    some_heard = omega (arith, t.some, t.many)

    pub passed_turns : {mark : Bookmark} → mark ≡ among (range_as way) (take q numbers) b
        → {page answer : Result Turn Refusal} {columns' columns'' : List ℕ} {shifts' : List ℤ}
        → AlongPages (take k kept) h theme way mark (lent columns shifts) page (lent columns' shifts')
        → InScore page (finished_bookmark (range_as way) (column_at n)) (take q numbers) columns' shifts' answer columns''
        → PlainPages cells h theme way b (lent columns shifts) answer (lent columns'' shifts')
    passed_turns {mark} m {page} {answer} {columns'} {columns''} {shifts'} p i =
        let is : mark ≡ b' = m ∙ ap (λ (l : List ℕ). among (range_as way) l b) t.numbers_front in
        let along_page_lem : Pages (leaf along b' (lent columns shifts)) page (lent columns' shifts') =
        subst (λ (l : Leaf). Pages l page (lent columns' shifts'))
        (ap (λ (c : List ℕ). along_page c h theme way mark (lent columns shifts)) (t.cells_front e)
        ∙ ap (λ (x : Bookmark). along_page (join (heard_of score)) h theme way x (lent columns shifts)) is ∙ along_leaf some_heard) p.pages in
        record { pages = in_score page along_page_lem (rw (t.numbers_front, counted ∙ sym (score_length cells h)) at i) }

-- ---- quick

kept_long : {sets numbers into into' : List ℕ} → KeepsSets sets numbers into into' → length into' ≡ length into
kept_long {sets} {numbers} {into} s =
    ap length s.entries
    ∙ over_length into (take (length into) (map (entry_at sets) numbers)) (omega (arith, length-take (length into) (map (entry_at sets) numbers)))

-- the entries go into a buffer that is all 0
pub entries_long : {sets numbers into' : List ℕ} → KeepsSets sets numbers (replicate most_columns 0) into' → length into' ≡ most_columns
entries_long s = kept_long s ∙ length-replicate {A = ℕ} most_columns 0

good_entries : (sets : List ℕ) → any_of bad_set sets ≡ false → (numbers : List ℕ) → any_of bad_set (map (entry_at sets) numbers) ≡ false
good_entries sets e [] = refl
good_entries sets e (k ∷ numbers) = rw (le-ltb highest_set (entry_at sets k) (none_over highest_set sets e (k - 1))) (good_entries sets e numbers)

module _ (cells : List ℕ) (h : ℕ) (theme : List ℕ) (way : Way) (b : Bookmark) (sets table columns : List ℕ) (shifts : List ℤ)
    (asks : QuickAsks cells h theme way b sets table columns shifts) where
  abbrev plainly : PlainAsks cells h theme (Moved way) b columns shifts
  plainly = asks.plain

  abbrev columns_heard : List (List ℕ)
  columns_heard = heard_of (score_of cells h)

  abbrev entries : List ℕ
  entries = entries_of (score_of cells h) sets

  abbrev candidates : Search Place
  candidates = quick_along word_bits way columns_heard theme (theme_table word_bits theme) entries

  abbrev mark' : Bookmark
  mark' = b' cells h theme (Moved way) b columns shifts plainly

  same_candidates : (s : Place) → In s candidates.starts
      → at_or_after b (renamed (number_of (score_of cells h)) (candidates.shown s)) ≡ at_or_after mark' (candidates.shown s)
  same_candidates s m =
      same cells h theme (Moved way) b columns shifts plainly s
      (in_hits (λ s. candidate word_bits (theme_table word_bits theme) entries (length theme) s.column) (starts way columns_heard theme) m).0

  kept_quick_asks : 1 ≤ length columns_heard → QuickAsks (join columns_heard) h theme way mark' entries table columns shifts
  kept_quick_asks some =
      record {
        plain = kept_asks cells h theme (Moved way) b columns shifts plainly some;
        with_sets =
            record {
              one_less =
                  length-map (take (length columns_heard - 1) (heard_from 1 (score_of cells h))) (entry_at sets)
                  ∙ length-take-le (length columns_heard - 1) (heard_from 1 (score_of cells h)) (omega (arith, heard_length 1 (score_of cells h)))
                  ∙ ap (λ (n : ℕ). n - 1) (sym (kept_columns most_notes cells h theme plainly.accepted));
              sets_good = good_entries sets asks.with_sets.sets_good (take (length columns_heard - 1) (heard_from 1 (score_of cells h)));
            };
        table_long = asks.table_long;
      }

  quick_rows : Clear (rows_of_quick cells h theme way b sets table (lent columns shifts))
  quick_rows = (quick_clear cells h theme way b sets table columns shifts).0 asks

  pub quick_filled : quick_table cells h theme way b sets table (lent columns shifts) ≡ theme_table word_bits theme
  unfolding quick_table
  quick_filled = judge_clear (λ r. table) (theme_table word_bits theme) (rows_of_quick cells h theme way b sets table (lent columns shifts)) quick_rows

  quick_leaf : 1 ≤ length columns_heard
      → quick_along_page (join columns_heard) h theme way mark' entries table (lent columns shifts) ≡ leaf candidates mark' (lent columns shifts)
  unfolding quick_along_page
  quick_leaf some =
      paged_clear (rows_of_quick (join columns_heard) h theme way mark' entries table (lent columns shifts))
      (quick_along word_bits way (score_of (join columns_heard) h) theme (theme_table word_bits theme) entries) mark' (lent columns shifts)
      ((quick_clear (join columns_heard) h theme way mark' entries table columns shifts).0 (kept_quick_asks some))
      ∙ ap (λ (s : List (List ℕ)). leaf (quick_along word_bits way s theme (theme_table word_bits theme) entries) mark' (lent columns shifts))
      (kept_score most_notes cells h theme plainly.accepted)

  inner_filled : 1 ≤ length columns_heard → quick_table (join columns_heard) h theme way mark' entries table (lent columns shifts) ≡ theme_table word_bits theme
  unfolding quick_table
  inner_filled some =
      judge_clear (λ r. table) (theme_table word_bits theme) (rows_of_quick (join columns_heard) h theme way mark' entries table (lent columns shifts))
      ((quick_clear (join columns_heard) h theme way mark' entries table columns shifts).0 (kept_quick_asks some))

  in_score_quick : {columns' columns'' : List ℕ} {shifts' : List ℤ} {answer : Result Turn Refusal} (page : Result Turn Refusal) → Pages (leaf candidates mark' (lent columns shifts)) page (lent columns' shifts')
      → InScore page (finished_bookmark (range_as (Moved way)) (column_at (length (score_of cells h)))) (heard_from 1 (score_of cells h)) columns' shifts' answer columns''
      → Pages (quick_page cells h theme way b sets table (lent columns shifts)) answer (lent columns'' shifts')
  unfolding quick_page
  in_score_quick (Ok u) p i =
      rw i.answers
      (renumbered_pages (length (score_of cells h)) (number_of (score_of cells h)) candidates b mark' same_candidates
      (rows_of_quick cells h theme way b sets table (lent columns shifts)) columns shifts plainly.room plainly.same_room quick_rows p i.renames refl)
  in_score_quick (Err r) p i = absurd (turned_refused (sym p.answers))

  -- the entries of the columns that are kept
  kept_entries : {q last : ℕ} {kept numbers into into' : List ℕ} → Took cells h theme plainly.accepted q kept numbers → last ≡ q - 1 → length into ≡ most_columns
      → KeepsSets sets (take last (take q numbers)) into into' → take last into' ≡ entries
  kept_entries {q} {last} {kept} {numbers} {into} {into'} t e long s =
      let N = heard_from 1 (score_of cells h) in
      let k : last ≡ length columns_heard - 1 = e ∙ ap (λ (n : ℕ). n - 1) t.many in
      let is : take last (take q numbers) ≡ take (length columns_heard - 1) N = rw t.numbers_front (ap (λ (n : ℕ). take n N) k) in
      let size : length entries ≡ length columns_heard - 1 =
      length-map (take (length columns_heard - 1) N) (entry_at sets)
      ∙ length-take-le (length columns_heard - 1) N (omega (arith, heard_length 1 (score_of cells h))) in
      let w : into' ≡ over into entries =
      s.entries ∙ ap (λ (l : List ℕ). over into (take (length into) (map (entry_at sets) l))) is
      ∙ ap (over into) (take_all (length into) entries (omega (arith, size, long, t.many, t.few))) in
      front entries into into' last w (k ∙ sym size)

  module _ {n q k last : ℕ} {kept numbers into' : List ℕ} (t : Took cells h theme plainly.accepted q kept numbers) (counted : n ≡ columns_in cells h) (e : k ≡ q * h)
      (l : last ≡ q - 1) (s : KeepsSets sets (take last (take q numbers)) (replicate most_columns 0) into') where
    quick_heard : 1 ≤ length columns_heard
    quick_heard = omega (arith, t.some, t.many)

    pub passed_quick_turns : {mark : Bookmark} → mark ≡ among (range_as (Moved way)) (take q numbers) b
        → {page answer : Result Turn Refusal} {table' columns' columns'' : List ℕ} {shifts' : List ℤ}
        → QuickAlongPages (take k kept) h theme way mark (take last into') table (lent columns shifts) page table' (lent columns' shifts')
        → InScore page (finished_bookmark (range_as (Moved way)) (column_at n)) (take q numbers) columns' shifts' answer columns''
        → QuickPages cells h theme way b sets table (lent columns shifts) answer table' (lent columns'' shifts')
    passed_quick_turns {mark} m {page} {answer} {table'} {columns'} {columns''} {shifts'} p i =
        let is : mark ≡ mark' = m ∙ ap (λ (l : List ℕ). among (range_as (Moved way)) l b) t.numbers_front in
        let given : QuickAlongPages (join columns_heard) h theme way mark' entries table (lent columns shifts) page table' (lent columns' shifts') =
        rw (t.cells_front e, kept_entries t l (length-replicate {A = ℕ} most_columns 0) s, is) at p in
        record {
          pages =
              in_score_quick page (subst (λ (x : Leaf). Pages x page (lent columns' shifts')) (quick_leaf quick_heard) given.pages)
              (rw (t.numbers_front, counted ∙ sym (score_length cells h)) at i);
          fills_table = given.fills_table ∙ inner_filled quick_heard ∙ sym quick_filled;
        }
