-- From the calls that answer to the exported ones: what was answered, told in numbers, is what the contract says; where there is no
-- call nothing changes. `leaves_through` and `leaves_none` say that of all calls, `single_through` of those that say one number.
-- Assumes nothing.
use mathlib.Core.Path.{◌≡◌, refl, sym, ap, ap₂, ◌∙◌, subst, subst₂}
use mathlib.Core.Bool.{Bool, true, false, ◌||◌, true≢false}
use mathlib.Core.List.{List}
use Prim.Native.Nat.{ℕ}
use lib.Dec.{eqb, ltb}
use lib.IntN.{ℤ, pos}
use lib.ListN.{length}
use borrow.Author.Tests.{eqb-true, not-false}
use Rattle.score.specs.Score.{column_at}
use Rattle.preparing.specs.Preparing.{Prepares}
use Rattle.updating.specs.Updating.{Updates}
use Rattle.ways.specs.declared.way.Way.{Way}
use Rattle.ways.specs.declared.way.AnyWay.{AnyWay}
use Rattle.ways.specs.declared.bookmark.Pair.{Pair}
use Rattle.paging.specs.Lent.{Lent}
use Rattle.paging.specs.Page.{Leaf, Pages}
use Rattle.search.specs.Page.{PlainPages, QuickPages}
use Rattle.occurring.specs.Occurring.{Occurs}
use Rattle.explaining.specs.declared.answer.Explanation.{Explanation}
use Rattle.explaining.specs.Explaining.{explanation}
use Rattle.routing.specs.Routing.{Routes}
use Rattle.routing.proofs.RouteAnswers.{routes_there}
use Rattle.finder_c.specs.Limits.{octave, written, answer_numbers, one_number, explain_numbers, not_called}
use Rattle.finder_c.specs.Singles.{of_summary, of_occurrence, of_routed}
use Rattle.finder_c.specs.Numbers.{way_of, any_way_of, no_answer, no_call, single_number, single_numbers, page_number, page_numbers}
use Rattle.finder_c.specs.Reasons.{explanation_number, explanation_numbers}
use Rattle.finder_c.specs.Small.{SmallSingle, SmallPage, SmallExplanation}
use Rattle.finder_c.specs.Calls.{CLeft, CLeaves, single_left, CPrepares, CUpdates, COccurs, summary_at}
use Rattle.finder_c.specs.Calls.{CPlainPages, CQuickPages, CExplains, CRoutes, bookmark, pair_told, leaf_left}
use Rattle.finder_c.proofs.SmallAnswers.{prepared_small, renewed_small, occurrence_small, plain_small, quick_small, explanation_small, routed_small}
use Rattle.std.specs.Prelude.{Result, Ok, Err}
use Rattle.paging.specs.declared.page.Turn.{Turn}
use Rattle.score.specs.declared.refusals.Refusal.{Refusal}
use Rattle.summing.specs.declared.summary.Summary.{Summary}

-- ---- whether it is a call

pub answer_long : (numbers len : ℕ) → no_answer numbers len ≡ false → len ≡ numbers
answer_long numbers len e = eqb-true len numbers (not-false (eqb len numbers) e)

pub call_long : (highest way numbers len : ℕ) → no_call highest way numbers len ≡ false → len ≡ numbers
call_long highest way numbers len e = answer_long numbers len (step (ltb highest way) e)
  where
    step : (b : Bool) → (b || no_answer numbers len) ≡ false → no_answer numbers len ≡ false
    step true e = absurd (true≢false e)
    step false e = e

-- ---- all calls

module _ {Buffers : Type 0} {none : Bool} {buffers : Buffers} {answer : List ℤ} {left : CLeft Buffers} where
  leaves_none : none ≡ true → CLeaves none buffers answer left (pos not_called) buffers answer
  leaves_none e = record { results = rw e; writes = rw e; writes_answer = rw e }

  leaves_through : {r : ℤ} {after : Buffers} {answer' : List ℤ} → none ≡ false → r ≡ left.result → after ≡ left.buffers → answer' ≡ left.answer
      → CLeaves none buffers answer left r after answer'
  leaves_through e n w ns = record { results = rw e n; writes = rw e w; writes_answer = rw e ns }

-- ---- calls that say one number

-- what was said, told in numbers
single_through : {s said : Result ℕ Refusal} {lent after left : List ℕ} {answer answer' : List ℤ} {r : ℤ} {none : Bool} → none ≡ false → s ≡ said → after ≡ left
    → r ≡ single_number s → answer' ≡ single_numbers s answer → CLeaves none lent answer (single_left said left answer) r after answer'
single_through {answer = answer} k e w n ns =
    leaves_through k (n ∙ ap single_number e) w (ns ∙ ap (λ (s : Result ℕ Refusal). single_numbers s answer) e)

module _ {cells : List ℕ} {h : ℕ} {sets : List ℕ} where
  -- finder_prepare
  module _ {p : Result Summary Refusal} {s : Result ℕ Refusal} {sets' : List ℕ} (a : Prepares cells h sets p sets') (e : s ≡ of_summary p) where
    pub prepares_small : SmallSingle s
    prepares_small = subst SmallSingle (sym (e ∙ ap of_summary a.answers)) (prepared_small cells h sets)

    pub prepares_through : {answer answer' : List ℤ} {r : ℤ} → no_answer one_number (length answer) ≡ false
        → r ≡ single_number s → answer' ≡ single_numbers s answer → CPrepares cells h sets answer r sets' answer'
    prepares_through k n ns = record { leaves = single_through k (e ∙ ap of_summary a.answers) a.fills n ns }

  pub prepares_none : {answer : List ℤ} → no_answer one_number (length answer) ≡ true → CPrepares cells h sets answer (pos not_called) sets answer
  prepares_none k = record { leaves = leaves_none k }

  -- finder_update
  module _ {column : ℕ} {c : Result Summary Refusal} {s : Result ℕ Refusal} {sets' : List ℕ} (a : Updates cells h (column_at column) sets c sets') (e : s ≡ of_summary c) where
    pub updates_small : SmallSingle s
    updates_small = subst SmallSingle (sym (e ∙ ap of_summary a.answers)) (renewed_small cells h sets (column_at column))

    pub updates_through : {answer answer' : List ℤ} {r : ℤ} → no_answer one_number (length answer) ≡ false
        → r ≡ single_number s → answer' ≡ single_numbers s answer → CUpdates cells h column sets answer r sets' answer'
    updates_through k n ns = record { leaves = single_through k (e ∙ ap of_summary a.answers) a.writes n ns }

  pub updates_none : {column : ℕ} {answer : List ℤ} → no_answer one_number (length answer) ≡ true
      → CUpdates cells h column sets answer (pos not_called) sets answer
  updates_none k = record { leaves = leaves_none k }

  -- finder_occurs
  module _ {theme : List ℕ} {w : Way} (summary : ℕ) {table : List ℕ} {o : Result Bool Refusal} {s : Result ℕ Refusal} {table' : List ℕ}
      (a : Occurs cells h theme w sets (summary_at summary) table o table') (e : s ≡ of_occurrence o) where
    pub occurs_small : SmallSingle s
    occurs_small =
        subst SmallSingle (sym (e ∙ ap of_occurrence a.answers)) (occurrence_small cells h sets theme w (summary_at summary) table)

    pub occurs_through : {way : ℕ} {answer answer' : List ℤ} {r : ℤ} → no_call octave way one_number (length answer) ≡ false → w ≡ way_of way
        → r ≡ single_number s → answer' ≡ single_numbers s answer → COccurs cells h theme way sets summary table answer r table' answer'
    occurs_through k v n ns =
        let b = subst (λ (w : Way). Occurs cells h theme w sets (summary_at summary) table o table') v a in
        record { leaves = single_through k (e ∙ ap of_occurrence b.answers) b.fills_table n ns }

  pub occurs_none : {theme : List ℕ} {way summary : ℕ} {table : List ℕ} {answer : List ℤ} → no_call octave way one_number (length answer) ≡ true
      → COccurs cells h theme way sets summary table answer (pos not_called) table answer
  occurs_none k = record { leaves = leaves_none k }

-- ---- page calls

pub plain_pages_small : {cells : List ℕ} {h : ℕ} {theme : List ℕ} {way : AnyWay} {column : ℕ} {shift : ℤ} {buffers after : Lent} {p : Result Turn Refusal}
    → PlainPages cells h theme way (bookmark column shift) buffers p after → SmallPage p
plain_pages_small {cells} {h} {theme} {way} {column} {shift} {buffers} r =
    subst SmallPage (sym r.pages.answers) (plain_small cells h theme (bookmark column shift) buffers way)

pub quick_pages_small : {cells : List ℕ} {h : ℕ} {theme : List ℕ} {way : Way} {column : ℕ} {shift : ℤ} {sets table table' : List ℕ}
    {buffers after : Lent} {p : Result Turn Refusal}
    → QuickPages cells h theme way (bookmark column shift) sets table buffers p table' after → SmallPage p
quick_pages_small {cells} {h} {theme} {way} {column} {shift} {sets} {table} {buffers = buffers} r =
    subst SmallPage (sym r.pages.answers) (quick_small cells h theme (bookmark column shift) buffers way sets table)

-- a page in numbers
page_through : {page : Leaf} {p : Result Turn Refusal} {buffers after : Lent} {answer answer' : List ℤ} {r : ℤ} {none : Bool} → none ≡ false → Pages page p after
    → r ≡ page_number p → answer' ≡ page_numbers p answer → CLeaves none buffers answer (leaf_left page answer) r after answer'
page_through {answer = answer} k a n ns =
    leaves_through k (n ∙ ap page_number a.answers) a.writes (ns ∙ ap (λ (q : Result Turn Refusal). page_numbers q answer) a.answers)

module _ {cells : List ℕ} {h : ℕ} {theme : List ℕ} {way column : ℕ} {shift : ℤ} where
  pub plain_none : {buffers : Lent} {answer : List ℤ} → no_call written way answer_numbers (length answer) ≡ true
      → CPlainPages cells h theme way column shift buffers answer (pos not_called) buffers answer
  plain_none e = record { leaves = leaves_none e }

  pub quick_none : {sets table : List ℕ} {buffers : Lent} {answer : List ℤ} → no_call octave way answer_numbers (length answer) ≡ true
      → CQuickPages cells h theme way column shift sets table buffers answer (pos not_called) table buffers answer
  quick_none e = record { leaves = leaves_none e; fills_table = rw e }

  pub plain_through : {buffers after : Lent} {answer answer' : List ℤ} {w : AnyWay} {z : ℤ} {p : Result Turn Refusal} {r : ℤ}
      → no_call written way answer_numbers (length answer) ≡ false → w ≡ any_way_of way → z ≡ shift
      → PlainPages cells h theme w (bookmark column z) buffers p after
      → r ≡ page_number p → answer' ≡ page_numbers p answer
      → CPlainPages cells h theme way column shift buffers answer r after answer'
  plain_through {buffers} {after} {answer} {p = p} e v k a n ns =
      let b = subst₂ (λ (w : AnyWay) (z : ℤ). PlainPages cells h theme w (bookmark column z) buffers p after) v k a in
      record { leaves = page_through e b.pages n ns }

  pub quick_through : {sets table table' : List ℕ} {buffers after : Lent} {answer answer' : List ℤ} {w : Way} {z : ℤ} {p : Result Turn Refusal} {r : ℤ}
      → no_call octave way answer_numbers (length answer) ≡ false → w ≡ way_of way → z ≡ shift
      → QuickPages cells h theme w (bookmark column z) sets table buffers p table' after
      → r ≡ page_number p → answer' ≡ page_numbers p answer
      → CQuickPages cells h theme way column shift sets table buffers answer r table' after answer'
  quick_through {sets} {table} {table'} {buffers} {after} {answer} {p = p} e v k a n ns =
      let b = subst₂ (λ (w : Way) (z : ℤ). QuickPages cells h theme w (bookmark column z) sets table buffers p table' after) v k a in
      record { leaves = page_through e b.pages n ns; fills_table = rw e b.fills_table }

-- ---- finder_explain

pub explains_small : (cells : List ℕ) (h : ℕ) (theme : List ℕ) (way : Way) (pair : Pair) (sets : List ℕ) {e : Result Explanation Refusal}
    → e ≡ explanation cells h theme way pair sets → SmallExplanation e
explains_small cells h theme way pair sets a = subst SmallExplanation (sym a) (explanation_small cells h theme way pair sets)

module _ {cells : List ℕ} {h : ℕ} {theme sets : List ℕ} {column : ℕ} where
  pub explains_none : {way : ℕ} {shift : ℤ} {answer : List ℤ} → no_call octave way explain_numbers (length answer) ≡ true
      → CExplains cells h theme way column shift sets answer (pos not_called) answer
  explains_none k = record { leaves = leaves_none k }

  pub explains_through : {way : ℕ} {shift : ℤ} {answer answer' : List ℤ} {w : Way} {z : ℤ} {e : Result Explanation Refusal} {r : ℤ}
      → no_call octave way explain_numbers (length answer) ≡ false → w ≡ way_of way → z ≡ shift
      → e ≡ explanation cells h theme w (pair_told column z) sets → r ≡ explanation_number e → answer' ≡ explanation_numbers e answer
      → CExplains cells h theme way column shift sets answer r answer'
  explains_through {answer = answer} k v m a n ns =
      let b = a ∙ ap₂ (λ (w : Way) (z : ℤ). explanation cells h theme w (pair_told column z) sets) v m in
      record { leaves = leaves_through k (n ∙ ap explanation_number b) refl (ns ∙ ap (λ (e : Result Explanation Refusal). explanation_numbers e answer) b) }

-- ---- finder_route

pub routes_small : {cells : List ℕ} {h : ℕ} {theme places places' : List ℕ} {w : AnyWay} {pair : Pair} {a : Result ℕ Refusal} {s : Result ℕ Refusal}
    → Routes cells h theme w pair places a places' → s ≡ of_routed a → SmallSingle s
routes_small routes e = subst SmallSingle (sym e) (routed_small _ _ _ _ _ _ routes)

module _ {cells : List ℕ} {h : ℕ} {theme places : List ℕ} {way column : ℕ} {shift : ℤ} where
  pub routes_none : {answer : List ℤ} → no_call written way one_number (length answer) ≡ true
      → CRoutes cells h theme way column shift places answer (pos not_called) places answer
  routes_none k =
      let (said, (after, routes)) = routes_there cells h theme (any_way_of way) (pair_told column shift) places in
      record { said = said; after = after; routes = routes; leaves = leaves_none k }

  pub routes_through : {answer answer' : List ℤ} {w : AnyWay} {z : ℤ} {a : Result ℕ Refusal} {s : Result ℕ Refusal} {places' : List ℕ} {r : ℤ}
      → no_call written way one_number (length answer) ≡ false → w ≡ any_way_of way → z ≡ shift
      → Routes cells h theme w (pair_told column z) places a places' → s ≡ of_routed a → r ≡ single_number s → answer' ≡ single_numbers s answer
      → CRoutes cells h theme way column shift places answer r places' answer'
  routes_through {a = a} {places' = places'} k v m routes e n ns = record {
    said = a;
    after = places';
    routes = subst₂ (λ (w : AnyWay) (z : ℤ). Routes cells h theme w (pair_told column z) places a places') v m routes;
    leaves = single_through k e refl n ns;
  }
