-- Every answer of the finder is small: a refused place is below 65,536, and the pairs of a page are a number of 32 bits. The
-- idea: a row names a place only after the rows that bound the length of what it goes through; a start of a theme that is
-- moved costs a look at least, and as the tune is written a column has one pair at most. First the answers of one number,
-- then the explanation, then the pages. Assumes nothing.
use mathlib.Core.Path.{◌≡◌, refl}
use mathlib.Core.Bool.{Bool, true, false, cond}
use mathlib.Core.List.{List, [], ◌∷◌}
use Prim.Native.Nat.{ℕ, zero, suc, ◌+◌, ◌-◌, ◌^◌, ◌≤◌, ◌<◌, zero-le}
use native.Mathlib.Nat.{mul-le-mul, lt_of_le_of_lt}
use native.Mathlib.Omega.{arith}
use lib.Dec.{ltb}
use lib.ListN.{length, length-map}
use Rattle.theory.specs.Pages.{page_hits, page_looks}
use Rattle.theory.specs.Lists.{count}
use Rattle.theory.proofs.Lists.{some_first, count_length}
use Rattle.theory.proofs.Pages.{hits_le, page_le}
use Rattle.score.specs.Limits.{most_tracks, most_columns, most_cells}
use Rattle.score.specs.declared.refusals.Rule.{Rule}
use Rattle.score.specs.declared.refusals.Refusal.{Refusal}
use Rattle.score.specs.Score.{columns_in, score_of, heard_of, note}
use Rattle.score.specs.Refusals.{Row, judge, verdict, row1, row2, row3, row6, row7, bad_cell, bad_set}
use Rattle.score.specs.declared.quantities.Column.{Column}
use Rattle.score.specs.Sets.{sets as setsOf}
use Rattle.score.proofs.Columns.{columns_whole, score_length}
use Rattle.score.proofs.Judged.{Clear}
use Rattle.summing.specs.declared.summary.Summary.{Summary}
use Rattle.summing.specs.Summary.{summary_of}
use Rattle.preparing.specs.Preparing.{Filled, prepare_rows, prepared}
use Rattle.updating.specs.Updating.{Renewed, row19, update_rows, updated_sets, renewed}
use Rattle.ways.specs.declared.way.Way.{Way}
use Rattle.ways.specs.declared.way.AnyWay.{AnyWay}
use Rattle.ways.specs.declared.way.AnyWay.TheVariants.{Moved, Written}
use Rattle.ways.specs.declared.bookmark.Bookmark.{Bookmark}
use Rattle.ways.specs.Way.{Range, range_of, range_as, code_of}
use Rattle.ways.specs.Codes.{no_shift}
use Rattle.ways.specs.declared.bookmark.Pair.{Pair}
use Rattle.asking.specs.Limits.{most_notes}
use Rattle.asking.specs.Asking.{Accepted}
use Rattle.asking.specs.Refusals.{row4, row5, row8, bad_note, page_rows}
use Rattle.asking.proofs.Rows.{row1_clear, row2_clear, row4_clear, row6_clear, plain_clear, quick_clear}
use Rattle.filter.specs.Limits.{word_bits}
use Rattle.filter.specs.Table.{theme_table}
use Rattle.walking.specs.Starts.{Place, looks}
use Rattle.paging.specs.Lent.{Lent}
use Rattle.paging.specs.Order.{at_or_after}
use Rattle.paging.specs.Search.{Search, left, found, spent}
use Rattle.paging.specs.Page.{Leaf, leaf, away}
use Rattle.search.specs.Pairs.{plain_search, quick_search, search_as}
use Rattle.search.specs.Page.{rows_of_plain, rows_of_quick, plain_page, quick_page}
use Rattle.search.proofs.Numbers.{heard_few}
use Rattle.search.proofs.WholeLists.{most_fits, plain_page_le, quick_page_le}
use Rattle.occurring.specs.Occurring.{row12, occurs_rows, quick_list, by_list}
use Rattle.explaining.specs.declared.answer.Explanation.{Explanation}
use Rattle.explaining.specs.declared.answer.Reason.{Reason}
use Rattle.explaining.specs.declared.fits.Fit.{Fit}
use Rattle.explaining.specs.declared.fits.Fit.TheVariants.{Zero, Short, NoPitch, Fits}
use Rattle.explaining.specs.Explaining.{note_outside, failed, held, column_of, reason_at, fit_of, bare, explained, explain_rows, explanation}
use Rattle.routing.specs.Routing.{pair_rows, route_rows, Routes}
use Rattle.finder_c.specs.Singles.{of_summary, of_occurrence, of_routed}
use Rattle.finder_c.specs.Small.{SmallPlace, SmallSingle, SmallPage, SmallExplanation}
use Rattle.std.specs.Prelude.{Result, Ok, Err}

-- ---- rows

-- each row that applies after those that do not names a small place
abbrev SmallRows : List Row → Type 0
SmallRows [] = Unit {0}
SmallRows (r ∷ rows) = (r.applies ≡ true → SmallPlace r.given) × (r.applies ≡ false → SmallRows rows)

judge_small : {A : Type 0} (P : A → Type 0) (refused : Refusal → A) (accepted : A) → ((r : Refusal) → SmallPlace r → P (refused r)) → (rows : List Row)
    → SmallRows rows → (Clear rows → P accepted) → P (judge rows refused accepted)
judge_small P refused accepted f [] s x = x tt
judge_small P refused accepted f (r ∷ rows) s x = step r.applies refl (λ e. judge_small P refused accepted f rows (s.1 e) (λ c. x (e, c)))
  where
    step : (b : Bool) → r.applies ≡ b → (r.applies ≡ false → P (judge rows refused accepted)) → P (cond b (refused r.given) (judge rows refused accepted))
    step true e more = f r.given (s.0 e)
    step false e more = more e

-- a row that names no place
nowhere : {k : Rule} → SmallPlace (record { rule = k; place = 0 })
nowhere = record { place = omega arith }

-- ---- rows that name one

cells_few : (cells : List ℕ) (h : ℕ) → (row1 h).applies ≡ false → (row2 cells h).applies ≡ false → length cells ≤ most_cells
cells_few cells h a b =
    let one = (row1_clear h).0 a in
    let two = (row2_clear cells h).0 b in
    omega (arith, columns_whole cells h two.0.0, mul-le-mul {n₁ = columns_in cells h} {m₁ = h} {n₂ = most_columns} {m₂ = most_tracks} two.1 one.1)

score_small : (cells : List ℕ) (h : ℕ) (rows : List Row) → ((row2 cells h).applies ≡ false → SmallRows rows)
    → SmallRows (row1 h ∷ row2 cells h ∷ row3 cells ∷ rows)
score_small cells h rows more = (
  λ e. nowhere,
  λ a. (λ e. nowhere, λ b. (λ e. record { place = omega (arith, some_first bad_cell cells e, cells_few cells h a b) }, λ d. more b)),
)

theme_small : (theme : List ℕ) (rows : List Row) → SmallRows rows → SmallRows (row4 most_notes theme ∷ row5 theme ∷ rows)
theme_small theme rows more = (
  λ e. nowhere,
  λ a. (λ e. record { place = omega (arith, some_first bad_note theme e, ((row4_clear most_notes theme).0 a).1) }, λ d. more),
)

sets_small : (cells : List ℕ) (h : ℕ) (sets : List ℕ) (rows : List Row) → (row2 cells h).applies ≡ false → SmallRows rows
    → SmallRows (row6 cells h sets ∷ row7 sets ∷ rows)
sets_small cells h sets rows b more = (
  λ e. nowhere,
  λ a. (λ e. record { place = omega (arith, some_first bad_set sets e, (row6_clear cells h sets).0 a, ((row2_clear cells h).0 b).1) }, λ d. more),
)

-- ---- answers of one number

-- a yes and a no are no refusals
list_small : (list : List Pair) → SmallSingle (of_occurrence (by_list list))
list_small [] = tt {0}
list_small (pair ∷ list) = tt {0}

module _ (cells : List ℕ) (h : ℕ) (sets : List ℕ) where
  pub prepared_small : SmallSingle (of_summary (prepared cells h sets).answer)
  prepared_small =
      let all = setsOf (score_of cells h) in
      judge_small (λ (f : Filled). SmallSingle (of_summary f.answer)) (λ r. record { answer = Err r; sets = sets })
      (record { answer = Ok (summary_of all); sets = all }) (λ r s. s) (prepare_rows cells h sets)
      (score_small cells h (row6 cells h sets ∷ []) (λ b. (λ e. nowhere, λ d. tt {0}))) (λ c. tt {0})

  pub renewed_small : (c : Column) → SmallSingle (of_summary (renewed cells h c sets).answer)
  renewed_small c =
      let after = updated_sets (score_of cells h) c sets in
      let last = row19 (columns_in cells h) c ∷ [] in
      judge_small (λ (f : Renewed). SmallSingle (of_summary f.answer)) (λ r. record { answer = Err r; sets = sets })
      (record { answer = Ok (summary_of after); sets = after }) (λ r s. s) (update_rows cells h c sets)
      (score_small cells h (row6 cells h sets ∷ row7 sets ∷ last) (λ b. sets_small cells h sets last b (λ e. nowhere, λ d. tt {0}))) (λ c. tt {0})

  pub occurrence_small : (theme : List ℕ) (way : Way) (summary : Summary) (table : List ℕ)
      → SmallSingle (of_occurrence (judge (occurs_rows cells h theme sets summary table) Err (by_list (quick_list way (score_of cells h) theme sets))))
  occurrence_small theme way summary table =
      let list = quick_list way (score_of cells h) theme sets in
      let last = row8 (length table) ∷ row12 sets summary ∷ [] in
      let rows = row6 cells h sets ∷ row7 sets ∷ last in
      judge_small (λ (o : Result Bool Refusal). SmallSingle (of_occurrence o)) Err (by_list list) (λ r s. s) (occurs_rows cells h theme sets summary table)
      (score_small cells h (row4 most_notes theme ∷ row5 theme ∷ rows)
      (λ b. theme_small theme rows (sets_small cells h sets last b (λ e. nowhere, λ d. (λ e. nowhere, λ d. tt {0}))))) (λ c. list_small list)

-- the verdict of rows, and so what a route says
abbrev SmallVerdict : Result (Unit {0}) Refusal → Type 0
SmallVerdict (Ok tt) = Unit {0}
SmallVerdict (Err r) = SmallPlace r

pub routed_small : (cells : List ℕ) (h : ℕ) (theme : List ℕ) (way : AnyWay) (pair : Pair) (lent : List ℕ) {said : Result ℕ Refusal} {after : List ℕ}
    → Routes cells h theme way pair lent said after → SmallSingle (of_routed said)
routed_small cells h theme way pair lent {said} a = step (verdict (route_rows cells h theme way pair lent)) refl small
  where
    small : SmallVerdict (verdict (route_rows cells h theme way pair lent))
    small =
        let last = pair_rows way (score_of cells h) theme pair lent in
        judge_small SmallVerdict Err (Ok tt) (λ r s. s) (route_rows cells h theme way pair lent)
        (score_small cells h (row4 most_notes theme ∷ row5 theme ∷ last)
        (λ b. theme_small theme last (λ e. nowhere, λ d. (λ e. nowhere, λ d. tt {0})))) (λ c. tt {0})

    step : (v : Result (Unit {0}) Refusal) → verdict (route_rows cells h theme way pair lent) ≡ v → SmallVerdict v → SmallSingle (of_routed said)
    step (Ok _) e s = rw (a.accepted e).counted (tt {0})
    step (Err r) e s = rw (a.refused r e).0 s

-- ---- the explanation: it is a refusal on a row alone

pub explanation_small : (cells : List ℕ) (h : ℕ) (theme : List ℕ) (way : Way) (pair : Pair) (sets : List ℕ)
    → SmallExplanation (explanation cells h theme way pair sets)
unfolding explanation
explanation_small cells h theme way pair sets =
    let rows = row6 cells h sets ∷ row7 sets ∷ [] in
    judge_small SmallExplanation Err (Ok (explained way (score_of cells h) theme pair sets)) (λ r s. s)
    (explain_rows cells h theme sets)
    (score_small cells h (row4 most_notes theme ∷ row5 theme ∷ rows) (λ b. theme_small theme rows (sets_small cells h sets [] b (tt {0}))))
    (λ c. tt {0})

-- ---- a page: each pair costs a look at least

page_pays : {A : Type 0} (hit : A → Bool) (looks : A → ℕ) → ((x : A) → 1 ≤ looks x) → (r : ℕ) (xs : List A)
    → length (page_hits hit r xs) ≤ page_looks hit looks r xs
page_pays hit looks pays zero xs = zero-le
page_pays hit looks pays (suc r) [] = zero-le
page_pays hit looks pays (suc r) (x ∷ xs) = step (hit x) (page_pays hit looks pays r xs) (page_pays hit looks pays (suc r) xs)
  where
    step : (b : Bool) → length (page_hits hit r xs) ≤ page_looks hit looks r xs → length (page_hits hit (suc r) xs) ≤ page_looks hit looks (suc r) xs
        → length (cond b (x ∷ page_hits hit r xs) (page_hits hit (suc r) xs)) ≤ looks x + cond b (page_looks hit looks r xs) (page_looks hit looks (suc r) xs)
    step true p q = omega (arith, p, pays x)
    step false p q = omega (arith, q)

looks_some : (way : Way) (score : List (List ℕ)) (theme : List ℕ) → 2 ≤ length theme → (s : Place) → 1 ≤ looks way score theme s
unfolding looks
looks_some way score [] m s = absurd (omega arith)
looks_some way score (p ∷ []) m s = absurd (omega arith)
looks_some way score (p ∷ q ∷ theme) m s = omega arith

-- ---- the page calls

-- the rows of the room and of the bookmark name no place
page_small : (range : Range) (n : ℕ) (b : Bookmark) (r other : ℕ) → SmallRows (page_rows range n b r other)
page_small range n b r other = (λ e. nowhere, λ a. (λ e. nowhere, λ d. tt {0}))

module _ (cells : List ℕ) (h : ℕ) (theme : List ℕ) (b : Bookmark) (buffers : Lent) where
  abbrev r : ℕ
  r = length buffers.columns

  -- a page whose looks are few, each start of which costs one at least
  few_looks : {A : Type 0} (S : Search A) → ((s : A) → 1 ≤ S.looks s) → spent S r b < 2 ^ 32 → length (found S r b) < 2 ^ 32
  few_looks S pays few =
      omega (arith, length-map (page_hits S.hit r (left S b)) S.shown, page_pays S.hit S.looks pays r (left S b), few)

  -- all ways: as the tune is written no page has more pairs than there are columns
  found_few : (way : AnyWay) → Accepted most_notes cells h theme → length (found (search_as way (score_of cells h) theme) r b) < 2 ^ 32
  found_few (Moved way) a =
      few_looks (plain_search way (score_of cells h) theme) (looks_some way (heard_of (score_of cells h)) theme a.notes_some)
      (lt_of_le_of_lt (plain_page_le cells h theme (Moved way) b r) (most_fits cells h theme a))
  found_few Written a =
      let S = search_as Written (score_of cells h) theme in
      let n = length (heard_of (score_of cells h)) + 1 - length theme in
      omega (
        arith,
        length-map (page_hits S.hit r (left S b)) S.shown,
        page_le S.hit r (left S b),
        hits_le (λ j. at_or_after b (S.shown j)) (count 1 n),
        count_length 1 n,
        heard_few (score_of cells h),
        score_length cells h,
        a.columns_few,
      )

  pub plain_small : (way : AnyWay) → SmallPage (plain_page cells h theme way b buffers).answer
  unfolding plain_page
  plain_small way =
      let page = page_rows (range_as way) (columns_in cells h) b r (length buffers.shifts) in
      let S = search_as way (score_of cells h) theme in
      judge_small (λ (l : Leaf). SmallPage l.answer) (away buffers) (leaf S b buffers) (λ r s. s) (rows_of_plain cells h theme way b buffers)
      (score_small cells h (row4 most_notes theme ∷ row5 theme ∷ page)
      (λ e. theme_small theme page (page_small (range_as way) (columns_in cells h) b r (length buffers.shifts))))
      (λ c. record { written = found_few way ((plain_clear cells h theme way b buffers.columns buffers.shifts).1 c).accepted })

  pub quick_small : (way : Way) (sets table : List ℕ) → SmallPage (quick_page cells h theme way b sets table buffers).answer
  unfolding quick_page
  quick_small way sets table =
      let page = page_rows (range_of way) (columns_in cells h) b r (length buffers.shifts) in
      let rows = row6 cells h sets ∷ row7 sets ∷ row8 (length table) ∷ page in
      let S = quick_search word_bits way (score_of cells h) theme (theme_table word_bits theme) sets in
      judge_small (λ (l : Leaf). SmallPage l.answer) (away buffers) (leaf S b buffers) (λ r s. s) (rows_of_quick cells h theme way b sets table buffers)
      (score_small cells h (row4 most_notes theme ∷ row5 theme ∷ rows)
      (λ e. theme_small theme rows
      (sets_small cells h sets (row8 (length table) ∷ page) e
      (λ t. nowhere, λ t. page_small (range_of way) (columns_in cells h) b r (length buffers.shifts)))))
      (λ c. let a = ((quick_clear cells h theme way b sets table buffers.columns buffers.shifts).1 c).plain.accepted in
      record {
        written = few_looks S (looks_some way (heard_of (score_of cells h)) theme a.notes_some)
            (lt_of_le_of_lt (quick_page_le cells h theme way b r word_bits (theme_table word_bits theme) sets) (most_fits cells h theme a));
      })
