-- What the explainer's rows come to: what is then asked (`passed_asks`), and which answer is given where its check turns away and
-- where it lets pass; and an answer that is no refusal is the explanation, and no row applies (`answered_is`). Assumes nothing.
use mathlib.Core.Path.{◌≡◌, refl, sym, ap, ◌∙◌}
use mathlib.Core.List.{List, [], ◌∷◌}
use Prim.Native.Nat.{ℕ}
use native.Mathlib.Omega.{arith}
use Rattle.score.specs.declared.refusals.Refusal.{Refusal}
use Rattle.score.specs.Score.{score_of}
use Rattle.score.specs.Refusals.{Row, row6, row7, verdict}
use Rattle.score.proofs.Judging.{judge_away}
use Rattle.score.proofs.Judged.{clear_split, judge_clear, verdict_clear}
use Rattle.ways.specs.declared.way.Way.{Way}
use Rattle.ways.specs.declared.bookmark.Pair.{Pair}
use Rattle.asking.specs.Limits.{most_notes}
use Rattle.asking.specs.Refusals.{request_rows}
use Rattle.asking.specs.Asking.{Accepted, AcceptedSets}
use Rattle.asking.proofs.Rows.{accepted_clear, row6_clear}
use Rattle.explaining.specs.declared.answer.Explanation.{Explanation}
use Rattle.explaining.specs.Explaining.{explained, explain_rows, explanation}
use Rattle.std.specs.Prelude.{Result, Ok, Err}

module _ (cells : List ℕ) (h : ℕ) (theme : List ℕ) (way : Way) (pair : Pair) (sets : List ℕ) where
  abbrev rows : List Row
  rows = explain_rows cells h theme sets

  -- what is then asked
  pub passed_asks : verdict rows ≡ Ok tt → Accepted most_notes cells h theme × AcceptedSets cells h sets
  passed_asks v =
      let d = clear_split (request_rows most_notes cells h theme) (row6 cells h sets ∷ row7 sets ∷ []) (verdict_clear rows v) in
      ((accepted_clear most_notes cells h theme).1 d.0, record { one_less = (row6_clear cells h sets).0 d.1.0; sets_good = d.1.1.0 })

  pub passed_explained : verdict rows ≡ Ok tt → explanation cells h theme way pair sets ≡ Ok (explained way (score_of cells h) theme pair sets)
  unfolding explanation
  passed_explained v = judge_clear Err (Ok (explained way (score_of cells h) theme pair sets)) rows (verdict_clear rows v)

  -- an answer that is no refusal
  pub answered_is : {e : Explanation} → Ok e ≡ explanation cells h theme way pair sets
      → (verdict rows ≡ Ok tt) × (e ≡ explained way (score_of cells h) theme pair sets)
  unfolding explanation
  answered_is {e} a = pick (verdict rows) refl
    where
      full : Explanation
      full = explained way (score_of cells h) theme pair sets

      pick : (v : Result (Unit {0}) Refusal) → verdict rows ≡ v → (verdict rows ≡ Ok (tt {0})) × (e ≡ full)
      pick (Ok _) v =
          let same : ◌≡◌ {A = Result Explanation Refusal} (Ok e) (Ok full) = a ∙ judge_clear Err (Ok full) rows (verdict_clear rows v) in
          (v, (let own : e ≡ full = cc in own))
      pick (Err r) v =
          let other : Ok e ≡ Err r = a ∙ judge_away Err (Ok full) rows v in
          absurd (let z : ◌≡◌ {A = ℕ} 0 1 = cc in omega arith)

  -- a check that turns away, and one that lets pass
  module _ {v : Result (Unit {0}) Refusal} (checked : v ≡ verdict rows) where
    pub turned_away : {r : Refusal} → v ≡ Err r → Err r ≡ explanation cells h theme way pair sets
    unfolding explanation
    turned_away e = sym (judge_away Err (Ok (explained way (score_of cells h) theme pair sets)) rows (sym checked ∙ e))

    pub lets_pass : v ≡ Ok tt → verdict rows ≡ Ok tt
    lets_pass e = sym checked ∙ e

    pub passed_answer : v ≡ Ok tt → {answer : Explanation} → answer ≡ explained way (score_of cells h) theme pair sets
        → Ok answer ≡ explanation cells h theme way pair sets
    passed_answer e a = ap Ok a ∙ sym (passed_explained (lets_pass e))
