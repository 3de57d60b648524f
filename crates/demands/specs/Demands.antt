-- When a list is trusted: three demands, each a record over what the calls promise and over no method. `Demand1`: what is turned
-- away, and that nothing is then written. `Demand2`: what is listed and what is prepared is true. `Demand3`: pages joined are
-- the whole list, and quick pages hold the same. Beside them what is wanted of four further calls: `Question`, whether a theme
-- occurs at all, `Update`, of the sets after one column was changed, `Explainer`, why a pair is listed or not, and `Router`, who
-- plays a listed pair. That all of them hold is `proofs/Demands`. The calls are the seven on which the others rest;
-- `docs/CONTRACTS.md` has them all. That every call ends is no field: the check proves of every function that it is safe and
-- ends, and no public call has a `requires`. Assumes nothing.
use Rattle.std.specs.Prelude.{◌≡◌, Bool, true, false, ◌↔◌, ◌⊎◌, ℕ, ◌+◌, ◌-◌, ◌/◌, ◌≤◌, ◌<◌, ℤ, pos, ◌+ℤ◌, length, get_or, take, drop, ◌≤ℤ◌, Result, Ok, Err}
use mathlib.Core.List.{List, [], ◌∷◌, ◌++◌, map, Memᴰ as In}
use Rattle.theory.specs.Lists.{sum, join}
use Rattle.theory.specs.Bits.{bit}
use Rattle.score.specs.Limits.{highest_pitch, highest_set, table_words}
use Rattle.score.specs.declared.refusals.Rule.{Rule}
use Rattle.score.specs.declared.refusals.Rule.TheVariants as rule
use Rattle.score.specs.declared.quantities.Pitch.{Pitch}
use Rattle.score.specs.declared.quantities.Interval.{Interval}
use Rattle.score.specs.declared.quantities.Column.{Column}
use Rattle.score.specs.declared.refusals.Refusal.{Refusal}
use Rattle.score.specs.Score.{column_at, column, score_of, heard, rank_of, onward, note}
use Rattle.score.specs.Sets.{Apart, interval, sets as setsOf}
use Rattle.score.specs.Refusals.{Row, number_of, verdict, GivenBy, place_by}
use Rattle.summing.specs.declared.summary.Summary.{Summary}
use Rattle.preparing.specs.Preparing.{prepare_rows, Prepares}
use Rattle.ways.specs.declared.way.Way.{Way}
use Rattle.ways.specs.declared.way.Way.TheVariants.{Exact}
use Rattle.ways.specs.declared.way.AnyWay.{AnyWay}
use Rattle.ways.specs.declared.way.AnyWay.TheVariants.{Moved, Written}
use Rattle.ways.specs.declared.bookmark.Pair.{Pair}
use Rattle.ways.specs.declared.bookmark.Bookmark.{Bookmark}
use Rattle.ways.specs.Way.{Holds, lowest, highest, range_as}
use Rattle.ways.specs.Bookmarks.{first_bookmark}
use Rattle.asking.specs.Limits.{most_notes}
use Rattle.asking.specs.Refusals.{request_rows}
use Rattle.filter.specs.Limits.{word_bits}
use Rattle.filter.specs.Table.{theme_table}
use Rattle.paging.specs.declared.page.Turn.{Turn}
use Rattle.paging.specs.Lent.{Lent, Room, read_pairs}
use Rattle.paging.specs.Order.{Ordered}
use Rattle.paging.specs.Page.{Leaf}
use Rattle.paging.specs.Reading.{Reading}
use Rattle.paging.specs.Listing.{Read, NoDearer}
use Rattle.search.specs.Definition.{Stands, StandsAs}
use Rattle.search.specs.Pairs.{candidate_of}
use Rattle.search.specs.Page.{rows_of_plain, PlainPages, rows_of_quick, QuickPages}
use Rattle.search.specs.WholeList.{most_looks}
use Rattle.occurring.specs.Occurring.{lacking, occurs_rows, Occurs}
use Rattle.seeking.specs.Limits.{most_sought}
use Rattle.seeking.specs.Sought.{numbers_on}
use Rattle.explaining.specs.declared.answer.Explanation.{Explanation}
use Rattle.explaining.specs.declared.answer.Reason.{Reason}
use Rattle.explaining.specs.declared.answer.Reason.TheVariants.{Listed, NoShift, NoColumn, TooFew, Empty, Outside, Absent}
use Rattle.explaining.specs.declared.answer.Lacking.{Lacking}
use Rattle.explaining.specs.declared.answer.Sifted.TheVariants.{Unasked, Kept, Dismissed}
use Rattle.explaining.specs.Explaining.{no_tracks, Fitting, explain_rows, explanation}
use Rattle.routing.specs.Route.{changes, Route, TheRoute}
use Rattle.routing.specs.Routing.{route_rows, Routes}
use Rattle.updating.specs.Updating.{heard_before, update_rows, Updates, OneChanged}

-- ---- demand 1: every call has an answer to all that it may be given. What is bad gets its refusal and its place, exactly on its row, and then
-- no buffer is written that is lent for writing

-- a call that is judged by these rows, which have these numbers in this order (rows 1 to 3, 6 and 7 are in
-- `score/specs/Refusals`, 4, 5 and 8 to 10 in `asking/specs/Refusals`, 12 in `occurring/specs/Occurring`, 13 and 14 in
-- `routing/specs/Routing`, 19 in `updating/specs/Updating`). `Refuses r` says that its answer is refusal r, `Accepts` that it is
-- none, and `Untouched` that the buffers that it may write are what they were, or, of a call that is lent none, that its answer
-- holds nothing else
pub record TurnsAway (numbers : List ℕ) (rows : List Row) (Refuses : Refusal → Type 0) (Accepts Untouched : Type 0) : Type 0 where
  pub order : map (λ (row : Row). number_of row.given.rule) rows ≡ numbers
  -- number k and place p are given exactly where row k is the first that applies, and p is the place that it names
  pub exactly : (k : Rule) (p : ℕ) → Refuses (record { rule = k; place = p }) ↔ (GivenBy rows k × (p ≡ place_by rows k))
  -- and the call is accepted exactly where no row applies
  pub otherwise : Accepts ↔ (verdict rows ≡ Ok tt)
  pub unwritten : (r : Refusal) → Refuses r → Untouched

pub record Demand1 : Type 0 where
  -- there is an answer, whatever is given
  pub preparation_answers : (cells : List ℕ) (h : ℕ) (lent : List ℕ) → (a : Result Summary Refusal) × ((after : List ℕ) × Prepares cells h lent a after)
  pub plain_answers : (cells : List ℕ) (h : ℕ) (theme : List ℕ) (way : AnyWay) (b : Bookmark) (buffers : Lent)
      → (a : Result Turn Refusal) × ((after : Lent) × PlainPages cells h theme way b buffers a after)
  pub quick_answers : (cells : List ℕ) (h : ℕ) (theme : List ℕ) (way : Way) (b : Bookmark) (sets table : List ℕ) (buffers : Lent)
      → (a : Result Turn Refusal) × ((table' : List ℕ) × ((after : Lent) × QuickPages cells h theme way b sets table buffers a table' after))
  pub question_answers : (cells : List ℕ) (h : ℕ) (theme : List ℕ) (way : Way) (sets : List ℕ) (summary : Summary) (table : List ℕ)
      → (a : Result Bool Refusal) × ((table' : List ℕ) × Occurs cells h theme way sets summary table a table')
  pub explainer_answers : (cells : List ℕ) (h : ℕ) (theme : List ℕ) (way : Way) (pair : Pair) (sets : List ℕ)
      → (a : Result Explanation Refusal) × (a ≡ explanation cells h theme way pair sets)
  pub router_answers : (cells : List ℕ) (h : ℕ) (theme : List ℕ) (way : AnyWay) (pair : Pair) (lent : List ℕ)
      → (a : Result ℕ Refusal) × ((after : List ℕ) × Routes cells h theme way pair lent a after)
  pub update_answers : (cells : List ℕ) (h : ℕ) (c : Column) (lent : List ℕ) → (a : Result Summary Refusal) × ((after : List ℕ) × Updates cells h c lent a after)
  -- and it is a refusal exactly on a row
  pub preparation : (cells : List ℕ) (h : ℕ) (lent : List ℕ) {answer : Result Summary Refusal} {after : List ℕ} → Prepares cells h lent answer after
      → TurnsAway (1 ∷ 2 ∷ 3 ∷ 6 ∷ []) (prepare_rows cells h lent) (λ r. answer ≡ Err r)
      ((s : Summary) × (answer ≡ Ok s)) (after ≡ lent)
  pub plain : (cells : List ℕ) (h : ℕ) (theme : List ℕ) (way : AnyWay) (b : Bookmark) (buffers : Lent) {answer : Result Turn Refusal} {after : Lent}
      → PlainPages cells h theme way b buffers answer after
      → TurnsAway (1 ∷ 2 ∷ 3 ∷ 4 ∷ 5 ∷ 9 ∷ 10 ∷ []) (rows_of_plain cells h theme way b buffers)
      (λ r. answer ≡ Err r) ((t : Turn) × (answer ≡ Ok t)) (after ≡ buffers)
  pub quick : (cells : List ℕ) (h : ℕ) (theme : List ℕ) (way : Way) (b : Bookmark) (sets table : List ℕ) (buffers : Lent)
      {answer : Result Turn Refusal} {table' : List ℕ} {after : Lent} → QuickPages cells h theme way b sets table buffers answer table' after
      → TurnsAway (1 ∷ 2 ∷ 3 ∷ 4 ∷ 5 ∷ 6 ∷ 7 ∷ 8 ∷ 9 ∷ 10 ∷ []) (rows_of_quick cells h theme way b sets table buffers)
      (λ r. answer ≡ Err r) ((t : Turn) × (answer ≡ Ok t)) ((after ≡ buffers) × (table' ≡ table))
  pub question : (cells : List ℕ) (h : ℕ) (theme : List ℕ) (way : Way) (sets : List ℕ) (summary : Summary) (table : List ℕ)
      {answer : Result Bool Refusal} {table' : List ℕ} → Occurs cells h theme way sets summary table answer table'
      → TurnsAway (1 ∷ 2 ∷ 3 ∷ 4 ∷ 5 ∷ 6 ∷ 7 ∷ 8 ∷ 12 ∷ []) (occurs_rows cells h theme sets summary table)
      (λ r. answer ≡ Err r) ((answer ≡ Ok true) ⊎ (answer ≡ Ok false)) (table' ≡ table)
  pub update : (cells : List ℕ) (h : ℕ) (c : Column) (lent : List ℕ) {answer : Result Summary Refusal} {after : List ℕ} → Updates cells h c lent answer after
      → TurnsAway (1 ∷ 2 ∷ 3 ∷ 6 ∷ 7 ∷ 19 ∷ []) (update_rows cells h c lent) (λ r. answer ≡ Err r)
      ((s : Summary) × (answer ≡ Ok s)) (after ≡ lent)
  pub router : (cells : List ℕ) (h : ℕ) (theme : List ℕ) (way : AnyWay) (pair : Pair) (lent : List ℕ)
      {answer : Result ℕ Refusal} {after : List ℕ} → Routes cells h theme way pair lent answer after
      → TurnsAway (1 ∷ 2 ∷ 3 ∷ 4 ∷ 5 ∷ 13 ∷ 14 ∷ []) (route_rows cells h theme way pair lent) (λ r. answer ≡ Err r)
      ((n : ℕ) × (answer ≡ Ok n)) (after ≡ lent)
  -- the explainer is lent nothing for writing: a refused answer has no explanation, and so no track and no second part
  pub explainer : (cells : List ℕ) (h : ℕ) (theme : List ℕ) (way : Way) (pair : Pair) (sets : List ℕ) {answer : Result Explanation Refusal}
      → answer ≡ explanation cells h theme way pair sets
      → TurnsAway (1 ∷ 2 ∷ 3 ∷ 4 ∷ 5 ∷ 6 ∷ 7 ∷ []) (explain_rows cells h theme sets) (λ r. answer ≡ Err r)
      ((e : Explanation) × (answer ≡ Ok e)) ((e : Explanation) → answer ≡ Ok e → ⊥)

-- ---- demand 2: what is listed stands by the published definition, which passes over empty columns, whatever sets were lent; and what is
-- prepared is, for each column and the next that has a pitch, exactly the intervals between them with octaves ignored

-- entry k, from 1, belongs to column k and the first column with a pitch from column k + 1 on: its bit d, 0 to 11, is 0 exactly
-- where they have pitches d apart; all its other bits are 0. So it is 4095 where column k is empty or none follows
pub record IntervalsOf (score : List (List ℕ)) (sets : List ℕ) : Type 0 where
  pub one_less : length sets ≡ length score - 1
  pub each : (k : ℕ) → 1 ≤ k → k < length score → (d : Interval) → d.0 < 12
      → (bit (get_or sets (k - 1) 0) d.0 ≡ 0) ↔ Apart (column score (column_at k)) (get_or (onward score (column_at (k + 1))) 0 []) d
  pub empty : (k : ℕ) → 1 ≤ k → k < length score → (heard (column score (column_at k)) ≡ false) ⊎ (onward score (column_at (k + 1)) ≡ [])
      → get_or sets (k - 1) 0 ≡ highest_set
  pub no_other : (k q : ℕ) → 12 ≤ q → bit (get_or sets (k - 1) 0) q ≡ 0

-- a summary of sets: its bit d, 0 to 11, is 0 exactly where some set has bit d at 0; all its other bits are 0; of no sets it is
-- 4095
pub record IsSummary (sets : List ℕ) (s : Summary) : Type 0 where
  pub each : (d : ℕ) → d < 12 → (bit s.0 d ≡ 0) ↔ ((k : ℕ) × (k < length sets) × (bit (get_or sets k 0) d ≡ 0))
  pub no_other : (q : ℕ) → 12 ≤ q → bit s.0 q ≡ 0
  pub of_none : sets ≡ [] → s.0 ≡ highest_set

pub record Demand2 : Type 0 where
  -- of all three ways: exact, octave, and as the tune is written
  pub plain : (cells : List ℕ) (h : ℕ) (theme : List ℕ) (way : AnyWay) (b : Bookmark) (buffers : Lent) {t : Turn} {after : Lent}
      → PlainPages cells h theme way b buffers (Ok t) after
      → {pair : Pair} → In pair (read_pairs t.written after) → StandsAs way (score_of cells h) theme pair
  -- of the two that move it
  pub quick : (cells : List ℕ) (h : ℕ) (theme : List ℕ) (way : Way) (b : Bookmark) (sets table : List ℕ) (buffers : Lent)
      {t : Turn} {table' : List ℕ} {after : Lent} → QuickPages cells h theme way b sets table buffers (Ok t) table' after
      → {pair : Pair} → In pair (read_pairs t.written after) → Stands way (score_of cells h) theme pair
  pub prepared : (cells : List ℕ) (h : ℕ) (lent : List ℕ) {s : Summary} {after : List ℕ} → Prepares cells h lent (Ok s) after
      → IntervalsOf (score_of cells h) after
  -- and so is the summary that is answered, of a preparation and of an update
  pub summary : (cells : List ℕ) (h : ℕ) (lent : List ℕ) {s : Summary} {after : List ℕ} → Prepares cells h lent (Ok s) after → IsSummary after s
  pub summary_after : (cells : List ℕ) (h : ℕ) (c : Column) (lent : List ℕ) {s : Summary} {after : List ℕ} → Updates cells h c lent (Ok s) after
      → IsSummary after s

-- ---- demand 3: whoever reads plain pages from the first bookmark on, and asks again with each bookmark that comes back until a page is finished,
-- has read every pair that stands, once and in order, in each of the three ways; quick pages by the score's own sets hold the
-- same pairs, bookmarks and ends, with no more looks; a list of L pairs takes L / r + 1 pages

-- no row of a score and a theme applies (1 to 5)
abbrev pub RightRequest : (cells : List ℕ) (h : ℕ) (theme : List ℕ) → Type 0
RightRequest cells h theme = verdict (request_rows most_notes cells h theme) ≡ Ok tt

-- any call that promises what a plain or a quick call does, at every bookmark and for whatever buffers it is lent. A quick call
-- is lent these sets, and at each call any table of 4,096 places
abbrev pub PlainCall : (cells : List ℕ) (h : ℕ) (theme : List ℕ) → AnyWay → (Bookmark → Lent → Leaf) → Type 0
PlainCall cells h theme way call = (b : Bookmark) (buffers : Lent) → PlainPages cells h theme way b buffers (call b buffers).answer (call b buffers).buffers

pub record QuickCall (cells : List ℕ) (h : ℕ) (theme : List ℕ) (way : Way) (sets : List ℕ) (call : Bookmark → Lent → Leaf) : Type 0 where
  pub table : Bookmark → Lent → List ℕ
  pub table' : Bookmark → Lent → List ℕ
  pub long : (b : Bookmark) (buffers : Lent) → length (table b buffers) ≡ table_words
  pub promises : (b : Bookmark) (buffers : Lent)
      → QuickPages cells h theme way b sets (table b buffers) buffers (call b buffers).answer (table' b buffers) (call b buffers).buffers

-- with room r and from the first bookmark: whatever buffers are lent there is a reading; and of every reading the pages,
-- joined, hold exactly the pairs that stand, each once and in order; there are L / r + 1 of them; and their looks are within
-- the bound
pub record ListsAll (cells : List ℕ) (h : ℕ) (theme : List ℕ) (way : AnyWay) (r : ℕ) (call : Bookmark → Lent → Leaf) : Type 0 where
  pub read : (supply : ℕ → Lent) → ((i : ℕ) → Room r (supply i)) → Read supply call r 0 (first_bookmark (range_as way))
  pub exactly : {pages : List (List Pair)} {turns : List Turn} → Reading call r (first_bookmark (range_as way)) pages turns
      → (pair : Pair) → In pair (join pages) ↔ StandsAs way (score_of cells h) theme pair
  pub ordered : {pages : List (List Pair)} {turns : List Turn} → Reading call r (first_bookmark (range_as way)) pages turns → Ordered (join pages)
  pub once : {pages : List (List Pair)} {turns : List Turn} → Reading call r (first_bookmark (range_as way)) pages turns
      → (before : List Pair) (pair : Pair) (behind : List Pair) → join pages ≡ before ++ pair ∷ behind → In pair behind → ⊥
  pub counted : {pages : List (List Pair)} {turns : List Turn} → Reading call r (first_bookmark (range_as way)) pages turns
      → length pages ≡ length (join pages) / r + 1
  pub looked : {pages : List (List Pair)} {turns : List Turn} → Reading call r (first_bookmark (range_as way)) pages turns
      → sum (map (λ (t : Turn). t.looks) turns) ≤ most_looks cells h theme

-- page by page the same count, the same bookmark and the same end, with no more looks
pub data NoneDearer : (quick plain : List Turn) → Type 0 where
  none : NoneDearer [] []
  more : {t u : Turn} {ts us : List Turn} → NoDearer (Ok t) (Ok u) → NoneDearer ts us → NoneDearer (t ∷ ts) (u ∷ us)

pub record Demand3 : Type 0 where
  -- all three ways
  pub plain : (cells : List ℕ) (h : ℕ) (theme : List ℕ) (way : AnyWay) → RightRequest cells h theme → (r : ℕ) → 1 ≤ r
      → {call : Bookmark → Lent → Leaf} → PlainCall cells h theme way call → ListsAll cells h theme way r call
  -- as the tune is written, no page takes a look
  pub written : (cells : List ℕ) (h : ℕ) (theme : List ℕ) (b : Bookmark) (buffers : Lent) {t : Turn} {after : Lent}
      → PlainPages cells h theme Written b buffers (Ok t) after → t.looks ≡ 0
  -- with the sets that a preparation left for that same score, the two ways that move the theme
  pub quick : (cells : List ℕ) (h : ℕ) (theme : List ℕ) (way : Way) → RightRequest cells h theme → (r : ℕ) → 1 ≤ r
      → (lent : List ℕ) {s : Summary} {sets : List ℕ} → Prepares cells h lent (Ok s) sets
      → {call : Bookmark → Lent → Leaf} → QuickCall cells h theme way sets call → ListsAll cells h theme (Moved way) r call
  -- and then every page holds what the plain one does, page after page from the first bookmark, or one page from any bookmark
  pub same_page : (cells : List ℕ) (h : ℕ) (theme : List ℕ) (way : Way) (b : Bookmark) (buffers buffers' : Lent) (table : List ℕ)
      → length buffers'.columns ≡ length buffers.columns
      → (lent : List ℕ) {s : Summary} {sets : List ℕ} → Prepares cells h lent (Ok s) sets
      → {t u : Turn} {after after' : Lent} {table' : List ℕ} → PlainPages cells h theme (Moved way) b buffers (Ok u) after
      → QuickPages cells h theme way b sets table buffers' (Ok t) table' after'
      → (read_pairs t.written after' ≡ read_pairs u.written after) × NoDearer (Ok t) (Ok u)
  pub same : (cells : List ℕ) (h : ℕ) (theme : List ℕ) (way : Way) → RightRequest cells h theme → (r : ℕ) → 1 ≤ r
      → (lent : List ℕ) {s : Summary} {sets : List ℕ} → Prepares cells h lent (Ok s) sets
      → {plainly quickly : Bookmark → Lent → Leaf} → PlainCall cells h theme (Moved way) plainly → QuickCall cells h theme way sets quickly
      → {pages pages' : List (List Pair)} {turns turns' : List Turn}
      → Reading plainly r (first_bookmark (range_as (Moved way))) pages turns → Reading quickly r (first_bookmark (range_as (Moved way))) pages' turns'
      → (pages' ≡ pages) × NoneDearer turns' turns

-- ---- the question: a yes exactly where there is something to find

pub record Question : Type 0 where
  -- an accepted question leaves the theme's table, on a no too
  pub table_filled : (cells : List ℕ) (h : ℕ) (theme : List ℕ) (way : Way) (sets : List ℕ) (summary : Summary) (table : List ℕ)
      {answer : Result Bool Refusal} {table' : List ℕ} → Occurs cells h theme way sets summary table answer table'
      → (answer ≡ Ok true) ⊎ (answer ≡ Ok false) → table' ≡ theme_table word_bits theme
  -- whatever sets are lent: a yes exactly where the first quick page by them, of any room, has a pair, and a no exactly where it
  -- has none
  pub by_pages : (cells : List ℕ) (h : ℕ) (theme : List ℕ) (way : Way) (sets : List ℕ) (summary : Summary) (table table₂ : List ℕ) (buffers : Lent)
      {answer : Result Bool Refusal} {table' table₂' : List ℕ} {t : Turn} {after : Lent} → Occurs cells h theme way sets summary table answer table'
      → (answer ≡ Ok true) ⊎ (answer ≡ Ok false)
      → QuickPages cells h theme way (first_bookmark (range_as (Moved way))) sets table₂ buffers (Ok t) table₂' after
      → ((answer ≡ Ok true) ↔ (1 ≤ t.written)) × ((answer ≡ Ok false) ↔ (t.written ≡ 0))
  -- with the sets and the summary that a preparation of that same score left: a yes exactly where the theme stands at all
  pub own : (cells : List ℕ) (h : ℕ) (theme : List ℕ) (way : Way) → RightRequest cells h theme
      → (lent : List ℕ) {s : Summary} {sets : List ℕ} → Prepares cells h lent (Ok s) sets
      → (table : List ℕ) → length table ≡ table_words → {answer : Result Bool Refusal} {table' : List ℕ} → Occurs cells h theme way sets s table answer table'
      → ((answer ≡ Ok true) ↔ ((pair : Pair) × Stands way (score_of cells h) theme pair))
      × ((answer ≡ Ok false) ↔ ((pair : Pair) → Stands way (score_of cells h) theme pair → ⊥))
  -- a theme with an interval that the summary lacks stands at no candidate: the answer without a walk is the one with it
  pub lacking_none : (cells : List ℕ) (h : ℕ) (theme : List ℕ) (way : Way) (sets : List ℕ) (summary : Summary) (table : List ℕ)
      {answer : Result Bool Refusal} {table' : List ℕ} → Occurs cells h theme way sets summary table answer table'
      → (answer ≡ Ok true) ⊎ (answer ≡ Ok false) → lacking theme summary.0 ≡ true → answer ≡ Ok false

-- ---- the update: sets that were right before the change are right after it

pub record Update : Type 0 where
  -- where the lent sets are those that a preparation left for a score which differs in the changed column only, what the update
  -- leaves and answers is what a fresh preparation does
  pub fresh : (before cells : List ℕ) (h : ℕ) (c : Column) → OneChanged c (score_of before h) (score_of cells h)
      → (lent : List ℕ) {s₀ : Summary} {sets : List ℕ} → Prepares before h lent (Ok s₀) sets
      → {s : Summary} {after : List ℕ} → Updates cells h c sets (Ok s) after → Prepares cells h sets (Ok s) after
  -- and whatever is lent: set k, from 1, is the score's own where it rests on the changed column, and otherwise what it was
  pub each : (cells : List ℕ) (h : ℕ) (c : Column) (lent : List ℕ) {s : Summary} {after : List ℕ} → Updates cells h c lent (Ok s) after
      → (length after ≡ length lent)
      × ((k : ℕ) → 1 ≤ k → k ≤ length lent → (k ≡ c.0) ⊎ (k ≡ heard_before (score_of cells h) c)
      → get_or after (k - 1) 0 ≡ get_or (setsOf (score_of cells h)) (k - 1) 0)
      × ((k : ℕ) → 1 ≤ k → k ≤ length lent → (k ≡ c.0 → ⊥) → (k ≡ heard_before (score_of cells h) c → ⊥)
      → get_or after (k - 1) 0 ≡ get_or lent (k - 1) 0)

-- ---- the explainer: the first reason that is true, the lowest tracks, and what the lent sets make of the column

-- the shift is one of the way
pub record OfWay (way : Way) (c : ℤ) : Type 0 where
  pub not_below : lowest way ≤ℤ c
  pub not_above : c ≤ℤ highest way

-- exact: p + c is a number t, 0 to 127
pub record Inside (p : Pitch) (c : ℤ) : Type 0 where
  pub t : ℕ
  pub small : t ≤ highest_pitch
  pub moved : pos p.0 +ℤ c ≡ pos t

module _ (way : Way) (score : List (List ℕ)) (theme : List ℕ) (pair : Pair) where
  -- the column of note i, from 1, holds it moved by the shift
  abbrev pub HeldNote : (i : ℕ) → Type 0
  HeldNote i = Holds way (get_or (onward score pair.column) (i - 1) []) (note theme i) pair.shift

  -- note i is the first that fails
  pub record FirstFails (i : ℕ) : Type 0 where
    pub from_first : 1 ≤ i
    pub to_last : i ≤ length theme
    pub fails : HeldNote i → ⊥
    pub earlier : (k : ℕ) → 1 ≤ k → k < i → HeldNote k

  -- the reason is true, and none that comes before it is
  abbrev pub TrueFirst : Reason → Type 0
  TrueFirst Listed = Stands way score theme pair
  TrueFirst NoShift = OfWay way pair.shift → ⊥
  TrueFirst NoColumn = OfWay way pair.shift × (pair.column.0 ≡ 0)
  TrueFirst TooFew = OfWay way pair.shift × (1 ≤ pair.column.0) × (length (onward score pair.column) < length theme)
  TrueFirst Empty =
      OfWay way pair.shift × (1 ≤ pair.column.0) × (length theme ≤ length (onward score pair.column))
      × (heard (column score pair.column) ≡ false)
  TrueFirst (Outside i) =
      OfWay way pair.shift × Fitting score theme pair.column × FirstFails i × (way ≡ Exact) × (Inside (note theme i) pair.shift → ⊥)
  TrueFirst (Absent i) =
      OfWay way pair.shift × Fitting score theme pair.column × FirstFails i × (way ≡ Exact → Inside (note theme i) pair.shift)

-- track t, from 1, of the column holds note p moved by c, and no lower track does
pub record LowestTrack (way : Way) (column : List ℕ) (p : Pitch) (c : ℤ) (t : ℕ) : Type 0 where
  pub from_first : 1 ≤ t
  pub to_last : t ≤ length column
  pub there : Holds way (get_or column (t - 1) 0 ∷ []) p c
  pub none_lower : (k : ℕ) → 1 ≤ k → k < t → Holds way (get_or column (k - 1) 0 ∷ []) p c → ⊥

-- interval x, from 1, which leads from note x to the next, is the first of the theme that is not in the set of its note's column
pub record DismissedBy (score : List (List ℕ)) (theme : List ℕ) (j : Column) (sets : List ℕ) (x : Lacking) : Type 0 where
  pub from_first : 1 ≤ x.number
  pub to_last : x.number < length theme
  pub sized : x.size ≡ interval (note theme x.number) (note theme (x.number + 1))
  pub small : x.size.0 < 12
  pub not_there : bit (get_or sets (get_or (numbers_on score j) (x.number - 1) 0 - 1) 0) x.size.0 ≡ 1
  pub earlier : (i : ℕ) → 1 ≤ i → i < x.number
      → bit (get_or sets (get_or (numbers_on score j) (i - 1) 0 - 1) 0) (interval (note theme i) (note theme (i + 1))).0 ≡ 0

-- the lent sets make the column a candidate, as the quick search has it
abbrev pub candidate_at : (cells : List ℕ) (h : ℕ) (theme sets : List ℕ) → Column → Bool
candidate_at cells h theme sets j =
    candidate_of word_bits (score_of cells h) (theme_table word_bits theme) sets (length theme) (rank_of (score_of cells h) j)

-- no row of the explainer applies (1 to 7)
abbrev pub RightExplained : (cells : List ℕ) (h : ℕ) (theme sets : List ℕ) → Type 0
RightExplained cells h theme sets = verdict (explain_rows cells h theme sets) ≡ Ok tt

pub record Explainer : Type 0 where
  -- listed, exactly where the pair stands
  pub listed : (cells : List ℕ) (h : ℕ) (theme : List ℕ) (way : Way) (pair : Pair) (sets : List ℕ) {answer : Explanation}
      → Ok answer ≡ explanation cells h theme way pair sets → RightExplained cells h theme sets
      → (answer.reason ≡ Listed) ↔ Stands way (score_of cells h) theme pair
  -- and so exactly where the full list has it, read by plain pages of any room
  pub in_list : (cells : List ℕ) (h : ℕ) (theme : List ℕ) (way : Way) (pair : Pair) (sets : List ℕ) {answer : Explanation}
      → Ok answer ≡ explanation cells h theme way pair sets → RightExplained cells h theme sets
      → (r : ℕ) → 1 ≤ r → {call : Bookmark → Lent → Leaf} → PlainCall cells h theme (Moved way) call
      → {pages : List (List Pair)} {turns : List Turn} → Reading call r (first_bookmark (range_as (Moved way))) pages turns
      → (answer.reason ≡ Listed) ↔ In pair (join pages)
  -- otherwise the first reason that is true
  pub first_reason : (cells : List ℕ) (h : ℕ) (theme : List ℕ) (way : Way) (pair : Pair) (sets : List ℕ) {answer : Explanation}
      → Ok answer ≡ explanation cells h theme way pair sets → RightExplained cells h theme sets
      → TrueFirst way (score_of cells h) theme pair answer.reason
  -- the tracks of a listed pair, by note, and 0 behind the last; and none of any other
  pub tracks : (cells : List ℕ) (h : ℕ) (theme : List ℕ) (way : Way) (pair : Pair) (sets : List ℕ) {answer : Explanation}
      → Ok answer ≡ explanation cells h theme way pair sets → RightExplained cells h theme sets → answer.reason ≡ Listed
      → ((i : ℕ) → 1 ≤ i → i ≤ length theme
      → LowestTrack way (get_or (onward (score_of cells h) pair.column) (i - 1) []) (note theme i) pair.shift (get_or answer.tracks (i - 1) 0))
      × ((i : ℕ) → length theme < i → get_or answer.tracks (i - 1) 0 ≡ 0)
  pub without_tracks : (cells : List ℕ) (h : ℕ) (theme : List ℕ) (way : Way) (pair : Pair) (sets : List ℕ) {answer : Explanation}
      → Ok answer ≡ explanation cells h theme way pair sets → RightExplained cells h theme sets
      → (answer.reason ≡ Listed → ⊥) → answer.tracks ≡ no_tracks
  -- 64 places, whatever is said
  pub places : (cells : List ℕ) (h : ℕ) (theme : List ℕ) (way : Way) (pair : Pair) (sets : List ℕ) {answer : Explanation}
      → Ok answer ≡ explanation cells h theme way pair sets → length answer.tracks ≡ most_sought
  -- where the column passes its checks, whatever the shift: kept exactly where the lent sets make it a candidate of the quick
  -- search, and otherwise dismissed, by the first interval that they lack; where it does not pass, nothing
  pub sifted : (cells : List ℕ) (h : ℕ) (theme : List ℕ) (way : Way) (pair : Pair) (sets : List ℕ) {answer : Explanation}
      → Ok answer ≡ explanation cells h theme way pair sets → RightExplained cells h theme sets → Fitting (score_of cells h) theme pair.column
      → ((answer.sifted ≡ Kept) ↔ (candidate_at cells h theme sets pair.column ≡ true))
      × (((x : Lacking) × (answer.sifted ≡ Dismissed x)) ↔ (candidate_at cells h theme sets pair.column ≡ false))
  pub dismissed : (cells : List ℕ) (h : ℕ) (theme : List ℕ) (way : Way) (pair : Pair) (sets : List ℕ) {answer : Explanation}
      → Ok answer ≡ explanation cells h theme way pair sets → RightExplained cells h theme sets → {x : Lacking} → answer.sifted ≡ Dismissed x
      → DismissedBy (score_of cells h) theme pair.column sets x
  pub unasked : (cells : List ℕ) (h : ℕ) (theme : List ℕ) (way : Way) (pair : Pair) (sets : List ℕ) {answer : Explanation}
      → Ok answer ≡ explanation cells h theme way pair sets → RightExplained cells h theme sets → (Fitting (score_of cells h) theme pair.column → ⊥)
      → answer.sifted ≡ Unasked
  -- and it rests on the column alone: another way and another shift change nothing of it
  pub by_column : (cells : List ℕ) (h : ℕ) (theme : List ℕ) (way way' : Way) (pair pair' : Pair) (sets : List ℕ)
      {answer answer' : Explanation} → Ok answer ≡ explanation cells h theme way pair sets → Ok answer' ≡ explanation cells h theme way' pair' sets
      → pair'.column ≡ pair.column → answer'.sifted ≡ answer.sifted

-- ---- the router: for a listed pair the one route that is meant, which is `TheRoute` of `routing/specs/Route`, and none for any other
-- pair

pub record Router : Type 0 where
  -- refusal 13, exactly where the pair does not stand, in each of the three ways and whatever is lent
  pub unlisted : (cells : List ℕ) (h : ℕ) (theme : List ℕ) (way : AnyWay) (pair : Pair) (lent : List ℕ)
      {answer : Result ℕ Refusal} {after : List ℕ} → Routes cells h theme way pair lent answer after → RightRequest cells h theme
      → (answer ≡ Err (record { rule = rule.Listed; place = 0 })) ↔ (StandsAs way (score_of cells h) theme pair → ⊥)
  -- and so, with a place for each note, a route is answered exactly where the full list has the pair, read by plain pages of any
  -- room
  pub in_list : (cells : List ℕ) (h : ℕ) (theme : List ℕ) (way : AnyWay) (pair : Pair) (lent : List ℕ)
      {answer : Result ℕ Refusal} {after : List ℕ} → Routes cells h theme way pair lent answer after → RightRequest cells h theme
      → length theme ≤ length lent
      → (r : ℕ) → 1 ≤ r → {call : Bookmark → Lent → Leaf} → PlainCall cells h theme way call
      → {pages : List (List Pair)} {turns : List Turn} → Reading call r (first_bookmark (range_as way)) pages turns
      → ((n : ℕ) × (answer ≡ Ok n)) ↔ In pair (join pages)
  -- every pair that stands in an accepted score has a route that is meant, and only one
  pub exactly_one : (cells : List ℕ) (h : ℕ) (theme : List ℕ) (way : AnyWay) (pair : Pair) → RightRequest cells h theme
      → StandsAs way (score_of cells h) theme pair
      → (route : List ℕ) × (TheRoute way (score_of cells h) theme pair route
      × ((other : List ℕ) → TheRoute way (score_of cells h) theme pair other → other ≡ route))
  -- an accepted call writes it, a track for each note from the front of the buffer
  pub writes : (cells : List ℕ) (h : ℕ) (theme : List ℕ) (way : AnyWay) (pair : Pair) (lent : List ℕ) {n : ℕ} {after : List ℕ}
      → Routes cells h theme way pair lent (Ok n) after
      → TheRoute way (score_of cells h) theme pair (take (length theme) after)
  -- and nothing behind it
  pub tail_kept : (cells : List ℕ) (h : ℕ) (theme : List ℕ) (way : AnyWay) (pair : Pair) (lent : List ℕ) {n : ℕ} {after : List ℕ}
      → Routes cells h theme way pair lent (Ok n) after
      → (length after ≡ length lent) × (drop (length theme) after ≡ drop (length theme) lent)
  -- it answers how many changes that route has, and no route of the pair has fewer
  pub least : (cells : List ℕ) (h : ℕ) (theme : List ℕ) (way : AnyWay) (pair : Pair) (lent : List ℕ) {n : ℕ} {after : List ℕ}
      → Routes cells h theme way pair lent (Ok n) after
      → (n ≡ changes (take (length theme) after))
      × ((other : List ℕ) → Route way (score_of cells h) theme pair other → n ≤ changes other)
  -- the route of a written pair is that of the same pair in exact
  pub as_exact : (score : List (List ℕ)) (theme : List ℕ) (pair : Pair) (route : List ℕ)
      → TheRoute Written score theme pair route ↔ TheRoute (Moved Exact) score theme pair route
