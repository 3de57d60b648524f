-- Demand 1: each call, over its promise. The idea: an answer that meets the promise is the defined one, whose refusals are
-- known. Assumes nothing.
use mathlib.Core.Path.{◌≡◌, refl, sym, ap, ◌∙◌}
use mathlib.Core.Bool.{true, Bool, false}
use mathlib.Core.Logic.{◌↔◌, ◌⊎◌}
use mathlib.Core.List.{List, [], ◌∷◌}
use Prim.Native.Nat.{ℕ}
use native.Mathlib.Omega.{arith}
use Rattle.score.specs.declared.refusals.Rule.{Rule}
use Rattle.score.specs.declared.quantities.Column.{Column}
use Rattle.score.specs.declared.refusals.Refusal.{Refusal}
use Rattle.score.specs.Refusals.{Row, verdict, distinct, GivenBy, place_by}
use Rattle.score.specs.Score.{score_of}
use Rattle.score.proofs.Judged.{Clear, judge_clear, verdict_clear, answer_refused, answer_accepted, answer_kept}
use Rattle.summing.specs.declared.summary.Summary.{Summary}
use Rattle.preparing.specs.Preparing.{prepare_rows, Prepares}
use Rattle.preparing.proofs.Prepared.{prepare_accepted, prepare_refused, prepare_kept}
use Rattle.ways.specs.declared.way.Way.{Way}
use Rattle.ways.specs.declared.way.AnyWay.{AnyWay}
use Rattle.ways.specs.declared.bookmark.Pair.{Pair}
use Rattle.ways.specs.declared.bookmark.Bookmark.{Bookmark}
use Rattle.asking.proofs.Rows.{plain_clear, quick_clear}
use Rattle.paging.specs.declared.page.Turn.{Turn}
use Rattle.paging.specs.Lent.{Lent}
use Rattle.search.specs.Page.{rows_of_plain, PlainPages, rows_of_quick, QuickPages}
use Rattle.search.proofs.PlainCall.{plain_turned, plain_refused, plain_kept}
use Rattle.search.proofs.QuickCall.{quick_turned, quick_refused, quick_kept}
use Rattle.occurring.specs.Occurring.{occurs_rows, Occurs}
use Rattle.occurring.proofs.Asked.{occurs_accepted, occurs_refused, occurs_kept}
use Rattle.updating.specs.Updating.{update_rows, Updates}
use Rattle.updating.proofs.Updated.{update_accepted, update_refused, update_kept}
use Rattle.routing.specs.Routing.{route_rows, Routes}
use Rattle.explaining.specs.declared.answer.Explanation.{Explanation}
use Rattle.explaining.specs.declared.answer.Reason.{Reason}
use Rattle.explaining.specs.declared.answer.Sifted.TheVariants.{Unasked}
use Rattle.explaining.specs.Explaining.{explained, explain_rows, explanation}
use Rattle.explaining.proofs.Refusing.{passed_explained, answered_is}
use Rattle.demands.specs.Demands.{TurnsAway}
use Rattle.demands.proofs.Routings.{routed_refused, routed_changes}
use Rattle.std.specs.Prelude.{Result, Ok, Err}

-- no row applies exactly where the verdict accepts
clear_verdict : (rows : List Row) → Clear rows ↔ (verdict rows ≡ Ok tt)
clear_verdict rows = (λ c. judge_clear Err (Ok tt) rows c, λ e. verdict_clear rows e)

-- a refusal is given exactly where the verdict is that refusal
given_verdict : (rows : List Row) → distinct rows ≡ true → (k : Rule) (p : ℕ)
    → (verdict rows ≡ Err (record { rule = k; place = p })) ↔ (GivenBy rows k × (p ≡ place_by rows k))
given_verdict rows = answer_refused (λ (v : Result (Unit {0}) Refusal). v) Err same Err (Ok tt) (λ r. refl) never rows
  where
    same : (r s : Refusal) → ◌≡◌ {A = Result (Unit {0}) Refusal} (Err r) (Err s) → r ≡ s
    same r s e = cc

    never : (r : Refusal) → Ok (tt {0}) ≡ Err r → ⊥
    never r e = let z : ◌≡◌ {A = ℕ} 0 1 = cc in omega arith

pub prepares_away : (cells : List ℕ) (h : ℕ) (lent : List ℕ) {answer : Result Summary Refusal} {after : List ℕ} → Prepares cells h lent answer after
    → TurnsAway (1 ∷ 2 ∷ 3 ∷ 6 ∷ []) (prepare_rows cells h lent) (λ r. answer ≡ Err r)
    ((s : Summary) × (answer ≡ Ok s)) (after ≡ lent)
prepares_away cells h lent p =
    let v = clear_verdict (prepare_rows cells h lent) in
    let a = prepare_accepted cells h lent in
    record {
      order = refl;
      exactly = λ k q. let e = prepare_refused cells h lent k q in (λ x. e.0 (sym p.answers ∙ x), λ x. p.answers ∙ e.1 x);
      otherwise = (λ x. v.0 (a.0 (x.0, sym p.answers ∙ x.1)), λ x. let t = a.1 (v.1 x) in (t.0, p.answers ∙ t.1));
      unwritten = λ r x. p.fills ∙ prepare_kept cells h lent r (sym p.answers ∙ x);
    }

pub plain_away : (cells : List ℕ) (h : ℕ) (theme : List ℕ) (way : AnyWay) (b : Bookmark) (buffers : Lent) {answer : Result Turn Refusal} {after : Lent}
    → PlainPages cells h theme way b buffers answer after
    → TurnsAway (1 ∷ 2 ∷ 3 ∷ 4 ∷ 5 ∷ 9 ∷ 10 ∷ []) (rows_of_plain cells h theme way b buffers)
    (λ r. answer ≡ Err r) ((t : Turn) × (answer ≡ Ok t)) (after ≡ buffers)
plain_away cells h theme way b buffers p =
    let e = p.pages.answers in
    let v = clear_verdict (rows_of_plain cells h theme way b buffers) in
    let a = plain_turned cells h theme way b buffers in
    let c = plain_clear cells h theme way b buffers.columns buffers.shifts in
    record {
      order = refl;
      exactly = λ k q. let f = plain_refused cells h theme way b buffers k q in (λ x. f.0 (sym e ∙ x), λ x. e ∙ f.1 x);
      otherwise = (λ x. v.0 (c.0 (a.0 (x.0, sym e ∙ x.1))), λ x. let t = a.1 (c.1 (v.1 x)) in (t.0, e ∙ t.1));
      unwritten = λ r x. p.pages.writes ∙ plain_kept cells h theme way b buffers r (sym e ∙ x);
    }

pub quick_away : (cells : List ℕ) (h : ℕ) (theme : List ℕ) (way : Way) (b : Bookmark) (sets table : List ℕ) (buffers : Lent)
    {answer : Result Turn Refusal} {table' : List ℕ} {after : Lent} → QuickPages cells h theme way b sets table buffers answer table' after
    → TurnsAway (1 ∷ 2 ∷ 3 ∷ 4 ∷ 5 ∷ 6 ∷ 7 ∷ 8 ∷ 9 ∷ 10 ∷ []) (rows_of_quick cells h theme way b sets table buffers)
    (λ r. answer ≡ Err r) ((t : Turn) × (answer ≡ Ok t)) ((after ≡ buffers) × (table' ≡ table))
quick_away cells h theme way b sets table buffers p =
    let e = p.pages.answers in
    let v = clear_verdict (rows_of_quick cells h theme way b sets table buffers) in
    let a = quick_turned cells h theme way b sets table buffers in
    let c = quick_clear cells h theme way b sets table buffers.columns buffers.shifts in
    record {
      order = refl;
      exactly = λ k q. let f = quick_refused cells h theme way b sets table buffers k q in (λ x. f.0 (sym e ∙ x), λ x. e ∙ f.1 x);
      otherwise = (λ x. v.0 (c.0 (a.0 (x.0, sym e ∙ x.1))), λ x. let t = a.1 (c.1 (v.1 x)) in (t.0, e ∙ t.1));
      unwritten = λ r x. let k = quick_kept cells h theme way b sets table buffers r (sym e ∙ x) in (p.pages.writes ∙ k.0, p.fills_table ∙ k.1);
    }

pub occurs_away : (cells : List ℕ) (h : ℕ) (theme : List ℕ) (way : Way) (sets : List ℕ) (summary : Summary) (table : List ℕ)
    {answer : Result Bool Refusal} {table' : List ℕ} → Occurs cells h theme way sets summary table answer table'
    → TurnsAway (1 ∷ 2 ∷ 3 ∷ 4 ∷ 5 ∷ 6 ∷ 7 ∷ 8 ∷ 12 ∷ []) (occurs_rows cells h theme sets summary table)
    (λ r. answer ≡ Err r) ((answer ≡ Ok true) ⊎ (answer ≡ Ok false)) (table' ≡ table)
occurs_away cells h theme way sets summary table o =
    let v = clear_verdict (occurs_rows cells h theme sets summary table) in
    let a = occurs_accepted cells h theme way sets summary table o in
    record {
      order = refl;
      exactly = occurs_refused cells h theme way sets summary table o;
      otherwise = (λ x. v.0 (a.0 x), λ x. a.1 (v.1 x));
      unwritten = occurs_kept cells h theme way sets summary table o;
    }

pub updates_away : (cells : List ℕ) (h : ℕ) (c : Column) (lent : List ℕ) {answer : Result Summary Refusal} {after : List ℕ} → Updates cells h c lent answer after
    → TurnsAway (1 ∷ 2 ∷ 3 ∷ 6 ∷ 7 ∷ 19 ∷ []) (update_rows cells h c lent) (λ r. answer ≡ Err r)
    ((s : Summary) × (answer ≡ Ok s)) (after ≡ lent)
updates_away cells h c lent u =
    let v = clear_verdict (update_rows cells h c lent) in
    let a = update_accepted cells h c lent in
    record {
      order = refl;
      exactly = λ k q. let e = update_refused cells h c lent k q in (λ x. e.0 (sym u.answers ∙ x), λ x. u.answers ∙ e.1 x);
      otherwise = (λ x. v.0 (a.0 (x.0, sym u.answers ∙ x.1)), λ x. let t = a.1 (v.1 x) in (t.0, u.answers ∙ t.1));
      unwritten = λ r x. u.writes ∙ update_kept cells h c lent r (sym u.answers ∙ x);
    }

-- ---- the router: its promise is over the verdict itself

pub routes_away : (cells : List ℕ) (h : ℕ) (theme : List ℕ) (way : AnyWay) (pair : Pair) (lent : List ℕ)
    {answer : Result ℕ Refusal} {after : List ℕ} → Routes cells h theme way pair lent answer after
    → TurnsAway (1 ∷ 2 ∷ 3 ∷ 4 ∷ 5 ∷ 13 ∷ 14 ∷ []) (route_rows cells h theme way pair lent) (λ r. answer ≡ Err r)
    ((n : ℕ) × (answer ≡ Ok n)) (after ≡ lent)
routes_away cells h theme way pair lent p =
    let a = routed_refused cells h theme way pair lent p in
    record {
      order = refl;
      exactly = λ k q.
          let f = a (record { rule = k; place = q }) in
          let g = given_verdict (route_rows cells h theme way pair lent) refl k q in
          (λ x. g.0 (f.0 x), λ x. f.1 (g.1 x));
      otherwise = routed_changes cells h theme way pair lent p;
      unwritten = λ r x. (p.refused r ((a r).0 x)).1;
    }

-- ---- the explainer

pub explains_away : (cells : List ℕ) (h : ℕ) (theme : List ℕ) (way : Way) (pair : Pair) (sets : List ℕ) {answer : Result Explanation Refusal}
    → answer ≡ explanation cells h theme way pair sets
    → TurnsAway (1 ∷ 2 ∷ 3 ∷ 4 ∷ 5 ∷ 6 ∷ 7 ∷ []) (explain_rows cells h theme sets) (λ r. answer ≡ Err r)
    ((e : Explanation) × (answer ≡ Ok e)) ((e : Explanation) → answer ≡ Ok e → ⊥)
unfolding explanation
explains_away cells h theme way pair sets {answer} e =
    let given = answer_refused (λ (a : Result Explanation Refusal). a) Err same Err (Ok full) (λ r. refl) never (explain_rows cells h theme sets) refl in
    record {
      order = refl;
      exactly = λ k q. let f = given k q in (λ x. f.0 (sym e ∙ x), λ x. e ∙ f.1 x);
      otherwise = (
        λ x. (answered_is cells h theme way pair sets (sym x.1 ∙ e)).0,
        λ v. (full, e ∙ passed_explained cells h theme way pair sets v),
      );
      unwritten = λ r x y z. told y r (sym z ∙ x);
    }
  where
    full : Explanation
    full = explained way (score_of cells h) theme pair sets

    same : (r s : Refusal) → ◌≡◌ {A = Result Explanation Refusal} (Err r) (Err s) → r ≡ s
    same r s e = cc

    told : (y : Explanation) (r : Refusal) → Ok y ≡ Err r → ⊥
    told y r e = let z : ◌≡◌ {A = ℕ} 0 1 = cc in omega arith

    never : (r : Refusal) → Ok full ≡ Err r → ⊥
    never r e = told full r e
