-- Which way a page goes: along all columns where none is empty, since a score without an empty column is its own columns with a
-- pitch, under its own numbers (`full_page`, `full_quick_page`), and where all are (`Silent`); turned away, or asked right and
-- with a column that has a pitch, otherwise. Assumes nothing.
use mathlib.Core.Path.{◌≡◌, refl, sym, ap, ◌∙◌, subst}
use mathlib.Core.Bool.{Bool, true, false, cond, not, true≢false}
use mathlib.Core.List.{List, [], ◌∷◌, map}
use Prim.Native.Nat.{ℕ, ◌+◌, ◌-◌, ◌≤◌, ◌<◌}
use native.Mathlib.Nat.{mul-le-mul_right, mul_comm}
use native.Mathlib.Omega.{arith}
use lib.IntN.{ℤ}
use lib.ListN.{length, get_or, take, length-map}
use lib.Seq.{get_or-take, ext_get_or, length-take-le}
use borrow.Author.Tests.{not-true, not-false}
use Rattle.theory.specs.Lists.{count}
use Rattle.theory.proofs.Lists.{count_length, count_at, map_at}
use Rattle.score.specs.declared.refusals.Refusal.{Refusal}
use Rattle.score.specs.Score.{columns_in, score_of, heard, has_empty, heard_of, number_of}
use Rattle.score.specs.Refusals.{Row, verdict, judge}
use Rattle.score.specs.Limits.{most_columns, most_cells}
use Rattle.score.proofs.Columns.{columns_whole, score_length}
use Rattle.score.proofs.Heard.{full_heard, full_numbers}
use Rattle.score.proofs.Judging.{judge_away}
use Rattle.score.proofs.Judged.{Clear, verdict_clear}
use Rattle.ways.specs.declared.way.Way.{Way}
use Rattle.ways.specs.declared.way.AnyWay.{AnyWay}
use Rattle.ways.specs.declared.way.AnyWay.TheVariants.{Moved}
use Rattle.ways.specs.declared.bookmark.Bookmark.{Bookmark}
use Rattle.asking.specs.Asking.{Accepted, PlainAsks, QuickAsks}
use Rattle.asking.proofs.Rows.{plain_clear, quick_clear}
use Rattle.filter.specs.Limits.{word_bits}
use Rattle.filter.specs.Table.{theme_table}
use Rattle.paging.specs.Lent.{Lent, lent}
use Rattle.paging.specs.Search.{Search, Right}
use Rattle.paging.specs.Page.{Leaf, leaf, away, paged, Pages}
use Rattle.paging.proofs.Fewer.{only_right}
use Rattle.paging.proofs.Turnings.{away_pages}
use Rattle.paging.proofs.Renumbered.{own_leaf}
use Rattle.walking.specs.Candidates.{candidate}
use Rattle.search.specs.Pairs.{along_search, along_as, in_score, search_as, entries_of, quick_search}
use Rattle.search.specs.Page.{rows_of_plain, plain_page, PlainPages, rows_of_quick, quick_page, quick_table, QuickPages}
use Rattle.search.specs.Along.{along_page, AlongPages, quick_along, quick_along_page, QuickAlongPages, goes_along, Leaves}
use Rattle.search.proofs.Searches.{along_right}
use Rattle.search.proofs.page.Silent.{none_heard, some_heard, silent_leaf, silent_quick_leaf}
use Rattle.std.specs.Prelude.{Result, Ok, Err}
use Rattle.paging.specs.declared.page.Turn.{Turn}

-- ---- no column is empty

-- a judgement where it matters only that no row applies
judge_where : {A : Type 0} (refused : Refusal → A) (x y : A) (rows : List Row) → (Clear rows → x ≡ y) → judge rows refused x ≡ judge rows refused y
judge_where refused x y [] f = f tt
judge_where {A} refused x y (row ∷ rows) f = step row.applies refl (judge_where refused x y rows)
  where
    step : (t : Bool) → row.applies ≡ t → ((Clear rows → x ≡ y) → judge rows refused x ≡ judge rows refused y)
        → cond t (refused row.given) (judge rows refused x) ≡ cond t (refused row.given) (judge rows refused y)
    step true e ih = refl
    step false e ih = ih (λ c. f (e, c))

module _ (score : List (List ℕ)) (full : has_empty score ≡ false) where
  own_number : (i : ℕ) → 1 ≤ i → i ≤ length score → number_of score i ≡ i
  own_number i low high =
      ap (λ (l : List ℕ). get_or l (i - 1) 0) (full_numbers 1 score full) ∙ count_at 1 (length score) (i - 1) 0 (omega arith) ∙ omega arith

  -- a right search along its columns
  full_leaf : {Start : Type 0} (S : Search Start) → S.columns ≡ length score → Right S → (b : Bookmark) (buffers : Lent)
      → leaf (in_score score S) b buffers ≡ leaf S b buffers
  full_leaf S e right b buffers =
      rw (← e)
      (own_leaf (number_of score) S (λ s m. let w = right.each s m in own_number (S.shown s).column.0 w.from_first (omega (arith, w.to_last, e))) b buffers)

  -- the entries of all columns but the last are all entries
  full_entries : (sets : List ℕ) → length sets ≡ length score - 1 → entries_of score sets ≡ sets
  full_entries sets e =
      rw (full_heard score full, full_numbers 1 score full)
      (ext_get_or 0 (map entry front) sets (length-map front entry ∙ front_long ∙ sym e) at)
    where
      entry : ℕ → ℕ
      entry k = get_or sets (k - 1) 0

      front : List ℕ
      front = take (length score - 1) (count 1 (length score))

      front_long : length front ≡ length score - 1
      front_long = length-take-le (length score - 1) (count 1 (length score)) (omega (arith, count_length 1 (length score)))

      at : (i : ℕ) → i < length (map entry front) → get_or (map entry front) i 0 ≡ get_or sets i 0
      at i l =
          let h : i < length score - 1 = omega (arith, length-map front entry, front_long) in
          let k : 1 + i - 1 ≡ i = omega arith in
          map_at entry front i 0 0 (omega (arith, front_long))
          ∙ ap entry (get_or-take (length score - 1) (count 1 (length score)) i 0 h ∙ count_at 1 (length score) i 0 (omega arith))
          ∙ ap (λ (n : ℕ). get_or sets n 0) k

-- ---- along all columns, or not

goes_either : {A : Type 0} (cells : List ℕ) (h : ℕ) → goes_along cells h ≡ true → (has_empty (score_of cells h) ≡ false → A) → (heard_of (score_of cells h) ≡ [] → A) → A
goes_either {A} cells h g full silent = step (has_empty (score_of cells h)) refl g
  where
    step : (t : Bool) → has_empty (score_of cells h) ≡ t → cond t (not (heard cells)) true ≡ true → A
    step true e g = silent (none_heard (columns_in cells h) h cells (not-true _ g))
    step false e g = full e

-- where it does not, what is left without the empty columns is some columns with a pitch
pub leaves : {most : ℕ} {cells : List ℕ} {h : ℕ} {theme : List ℕ} → Accepted most cells h theme → {t : Bool} → t ≡ goes_along cells h → t ≡ false
    → {kept : List ℕ} → length cells ≤ length kept → Leaves cells h kept
leaves {cells = cells} {h = h} a e g l =
    record { some_heard = some_heard (columns_in cells h) h cells (sym (columns_whole cells h a.columns_whole)) (step (has_empty (score_of cells h)) (sym e ∙ g)); room = l }
  where
    step : (t : Bool) → cond t (not (heard cells)) true ≡ false → heard cells ≡ true
    step true g = not-false _ g
    step false g = absurd (true≢false g)

-- ---- plain

-- an accepted score has no more cells than the most
pub cells_most : {most : ℕ} {cells : List ℕ} {h : ℕ} {theme : List ℕ} → Accepted most cells h theme → length cells ≤ most_cells
cells_most {cells = cells} {h = h} a =
    omega (arith, columns_whole cells h a.columns_whole, mul-le-mul_right h a.columns_few, mul-le-mul_right most_columns a.tracks_few, mul_comm most_columns h)

module _ (cells : List ℕ) (h : ℕ) (theme : List ℕ) (way : AnyWay) (b : Bookmark) (columns : List ℕ) (shifts : List ℤ) where
  abbrev rows : List Row
  rows = rows_of_plain cells h theme way b (lent columns shifts)

  abbrev buffers : Lent
  buffers = lent columns shifts

  full_page : has_empty (score_of cells h) ≡ false → plain_page cells h theme way b buffers ≡ along_page cells h theme way b buffers
  unfolding plain_page along_page
  full_page full =
      let score = score_of cells h in
      ap (λ (s : List (List ℕ)). paged rows (in_score score (along_as way s theme)) b buffers) (full_heard score full)
      ∙ judge_where (away buffers) (leaf (in_score score (along_as way score theme)) b buffers) (leaf (along_as way score theme) b buffers) rows
      (λ c. let a = ((plain_clear cells h theme way b columns shifts).1 c).accepted in
      full_leaf score full (along_as way score theme) refl (along_right way score theme a.notes_some (omega (arith, score_length cells h, a.columns_few))) b buffers)

  silent_page : heard_of (score_of cells h) ≡ [] → plain_page cells h theme way b buffers ≡ along_page cells h theme way b buffers
  unfolding plain_page along_page
  silent_page silent =
      let score = score_of cells h in
      judge_where (away buffers) (leaf (search_as way score theme) b buffers) (leaf (along_as way score theme) b buffers) rows
      (λ c. let a = ((plain_clear cells h theme way b columns shifts).1 c).accepted in silent_leaf score theme silent (omega (arith, a.notes_some)) b buffers way)

  pub along_pages : {t : Bool} → t ≡ goes_along cells h → t ≡ true → {answer : Result Turn Refusal} {after : Lent} → AlongPages cells h theme way b buffers answer after
      → PlainPages cells h theme way b buffers answer after
  along_pages e g {answer} {after} p =
      record { pages = subst (λ (l : Leaf). Pages l answer after) (sym (goes_either cells h (sym e ∙ g) full_page silent_page)) p.pages }

  -- what was checked is asked right, or turned away
  pub plain_checked : {v : Result (Unit {0}) Refusal} → v ≡ verdict rows → v ≡ Ok tt → PlainAsks cells h theme way b columns shifts
  plain_checked e p = (plain_clear cells h theme way b columns shifts).1 (verdict_clear rows (sym e ∙ p))

  pub plain_refused : {v : Result (Unit {0}) Refusal} {r : Refusal} → v ≡ verdict rows → v ≡ Err r → PlainPages cells h theme way b buffers (Err r) buffers
  unfolding plain_page
  plain_refused e p =
      let S = search_as way (score_of cells h) theme in
      record { pages = away_pages rows S b buffers (judge_away (away buffers) (leaf S b buffers) rows (sym e ∙ p)) refl }

-- ---- quick

module _ (cells : List ℕ) (h : ℕ) (theme : List ℕ) (way : Way) (b : Bookmark) (sets table columns : List ℕ) (shifts : List ℤ) where
  abbrev quickly : List Row
  quickly = rows_of_quick cells h theme way b sets table (lent columns shifts)

  abbrev lents : Lent
  lents = lent columns shifts

  full_quick_page : has_empty (score_of cells h) ≡ false → quick_page cells h theme way b sets table lents ≡ quick_along_page cells h theme way b sets table lents
  unfolding quick_page quick_along_page
  full_quick_page full =
      let score = score_of cells h in
      let T = theme_table word_bits theme in
      judge_where (away lents) (leaf (quick_search word_bits way score theme T sets) b lents) (leaf (quick_along word_bits way score theme T sets) b lents) quickly
      (λ c. let asks = (quick_clear cells h theme way b sets table columns shifts).1 c in
      let a = asks.plain.accepted in
      ap (λ (s : List (List ℕ)). leaf (in_score score (quick_along word_bits way s theme T (entries_of score sets))) b lents) (full_heard score full)
      ∙ ap (λ (l : List ℕ). leaf (in_score score (quick_along word_bits way score theme T l)) b lents)
      (full_entries score full sets (asks.with_sets.one_less ∙ ap (λ (n : ℕ). n - 1) (sym (score_length cells h))))
      ∙ full_leaf score full (quick_along word_bits way score theme T sets) refl
      (only_right (λ s. candidate word_bits T sets (length theme) s.column) (along_search way score theme)
      (along_right (Moved way) score theme a.notes_some (omega (arith, score_length cells h, a.columns_few)))) b lents)

  silent_quick_page : heard_of (score_of cells h) ≡ [] → quick_page cells h theme way b sets table lents ≡ quick_along_page cells h theme way b sets table lents
  unfolding quick_page quick_along_page
  silent_quick_page silent =
      let score = score_of cells h in
      let T = theme_table word_bits theme in
      judge_where (away lents) (leaf (quick_search word_bits way score theme T sets) b lents) (leaf (quick_along word_bits way score theme T sets) b lents) quickly
      (λ c. let a = ((quick_clear cells h theme way b sets table columns shifts).1 c).plain.accepted in
      silent_quick_leaf score theme silent (omega (arith, a.notes_some)) b lents word_bits way T sets)

  pub along_quick_pages : {t : Bool} → t ≡ goes_along cells h → t ≡ true → {answer : Result Turn Refusal} {table' : List ℕ} {after : Lent}
      → QuickAlongPages cells h theme way b sets table lents answer table' after → QuickPages cells h theme way b sets table lents answer table' after
  along_quick_pages e g {answer} {table'} {after} p =
      record {
        pages = subst (λ (l : Leaf). Pages l answer after) (sym (goes_either cells h (sym e ∙ g) full_quick_page silent_quick_page)) p.pages;
        fills_table = p.fills_table;
      }

  pub quick_checked : {v : Result (Unit {0}) Refusal} → v ≡ verdict quickly → v ≡ Ok tt → QuickAsks cells h theme way b sets table columns shifts
  quick_checked e p = (quick_clear cells h theme way b sets table columns shifts).1 (verdict_clear quickly (sym e ∙ p))

  pub quick_refused : {v : Result (Unit {0}) Refusal} {r : Refusal} → v ≡ verdict quickly → v ≡ Err r → QuickPages cells h theme way b sets table lents (Err r) table lents
  unfolding quick_page quick_table
  quick_refused {v} {r} e p =
      let S = quick_search word_bits way (score_of cells h) theme (theme_table word_bits theme) sets in
      record {
        pages = away_pages quickly S b lents (judge_away (away lents) (leaf S b lents) quickly (sym e ∙ p)) refl;
        fills_table = sym (judge_away (λ r. table) (theme_table word_bits theme) quickly (sym e ∙ p));
      }
