-- The calls' promise, from what was checked and written; and it leaves one answer and one state of the buffer (`tells_unique`).
-- A search is refused exactly where it is not accepted (`search_accepted`), by the first of the rows 1 to 5 that applies
-- (`search_refused`); where nothing is told, nothing is written (`search_kept`). Assumes nothing.
use mathlib.Core.Path.{◌≡◌, refl, sym, ap, ◌∙◌}
use mathlib.Core.Bool.{Bool, true, false, cond}
use mathlib.Core.Logic.{◌↔◌}
use mathlib.Core.List.{List, []}
use Prim.Native.Nat.{ℕ, ◌≤◌, ◌<◌}
use native.Mathlib.Nat.{zero-add}
use native.Mathlib.Omega.{arith}
use lib.Dec.{ltb}
use lib.ListN.{length}
use borrow.Author.Tests.{lt-ltb, le-ltb}
use Rattle.theory.specs.Lists.{over}
use Rattle.theory.proofs.Lists.{over_sets}
use Rattle.score.specs.declared.refusals.Rule.{Rule}
use Rattle.score.specs.declared.refusals.Refusal.{Refusal}
use Rattle.score.specs.Score.{score_of}
use Rattle.score.specs.Refusals.{verdict, GivenBy, place_by}
use Rattle.score.proofs.Judging.{judge_away}
use Rattle.score.proofs.Judged.{judge_either, judge_clear, judge_clear_of, verdict_clear, answer_refused}
use Rattle.ways.specs.declared.way.AnyWay.{AnyWay}
use Rattle.asking.specs.Limits.{most_notes}
use Rattle.asking.specs.Refusals.{request_rows}
use Rattle.asking.specs.Asking.{Accepted}
use Rattle.asking.proofs.Rows.{accepted_clear}
use Rattle.telling.specs.declared.calls.TellError.{TellError}
use Rattle.telling.specs.declared.calls.TellError.TheVariants.{Refused, Short}
use Rattle.telling.specs.Lines.{lines_of}
use Rattle.telling.specs.Limits.{room}
use Rattle.telling.specs.Telling.{Tale, told, search_told, Tells}
use Rattle.telling.specs.Steps.{Wrote}
use Rattle.std.specs.Prelude.{Result, Ok, Err}

pub tells_unique : {tale : Tale} {a b : Result ℕ TellError} {s t : List ℕ} → Tells tale a s → Tells tale b t → (a ≡ b) × (s ≡ t)
tells_unique p q = (p.answers ∙ sym q.answers, p.writes ∙ sym q.writes)

-- a refusal is told apart from every other
abbrev refusal_in : Refusal → Result ℕ TellError → Refusal
refusal_in d (Ok n) = d
refusal_in d (Err Short) = d
refusal_in d (Err (Refused r)) = r

refused_same : {r s : Refusal} → ◌≡◌ {A = Result ℕ TellError} (Err (Refused r)) (Err (Refused s)) → r ≡ s
refused_same {r} e = ap (refusal_in r) e

-- ---- a text, and the buffer

module _ (text out : List ℕ) where
  pub tells_short : length out < room → Tells (told text out) (Err Short) out
  unfolding told
  tells_short h = record { answers = rw (lt-ltb (length out) room h); writes = rw (lt-ltb (length out) room h) }

  pub tells_told : length text ≤ room → room ≤ length out → {r : ℕ} {out' : List ℕ} → Wrote text 0 out r out' → Tells (told text out) (Ok r) out'
  unfolding told
  tells_told few h w =
      record {
        answers = rw (le-ltb (length out) room h) (ap Ok (w.place ∙ zero-add (length text)));
        writes = rw (le-ltb (length out) room h) (w.is ∙ over_sets out [] 0 text 0 refl (omega arith));
      }

  abbrev short : Tale
  short = record { answer = Err Short; out = out }

  abbrev said : Tale
  said = record { answer = Ok (length text); out = over out text }

  -- it is no refusal
  never_refused : (r : Refusal) → (told text out).answer ≡ Err (Refused r) → ⊥
  unfolding told
  never_refused r = step (ltb (length out) room)
    where
      step : (t : Bool) → (cond t short said).answer ≡ Err (Refused r) → ⊥
      step true e = let z : ◌≡◌ {A = ℕ} 0 1 = cc in omega arith
      step false e = let z : ◌≡◌ {A = ℕ} 0 1 = cc in omega arith

  -- what is not told is not written
  untold_kept : ((n : ℕ) → (told text out).answer ≡ Ok n → ⊥) → (told text out).out ≡ out
  unfolding told
  untold_kept = step (ltb (length out) room)
    where
      step : (t : Bool) → ((n : ℕ) → (cond t short said).answer ≡ Ok n → ⊥) → (cond t short said).out ≡ out
      step true f = refl
      step false f = absurd (f (length text) refl)

-- ---- a search that is checked

module _ (cells : List ℕ) (h : ℕ) (theme : List ℕ) (way : AnyWay) where
  module _ {v : Result (Unit {0}) Refusal} (checked : v ≡ verdict (request_rows most_notes cells h theme)) where
    pub checked_accepted : v ≡ Ok tt → Accepted most_notes cells h theme
    checked_accepted e = (accepted_clear most_notes cells h theme).1 (verdict_clear (request_rows most_notes cells h theme) (sym checked ∙ e))

    pub tells_refused : (out : List ℕ) {r : Refusal} → v ≡ Err r → Tells (search_told cells h theme way out) (Err (Refused r)) out
    unfolding search_told
    tells_refused out {r} e =
        let p : search_told cells h theme way out ≡ record { answer = Err (Refused r); out = out } =
        judge_away (λ r. record { answer = Err (Refused r); out = out }) (told (lines_of way (score_of cells h) theme) out) (request_rows most_notes cells h theme) (sym checked ∙ e) in
        record { answers = sym (ap (λ (t : Tale). t.answer) p); writes = sym (ap (λ (t : Tale). t.out) p) }

  -- an accepted one
  pub accepted_told : (out : List ℕ) → Accepted most_notes cells h theme → search_told cells h theme way out ≡ told (lines_of way (score_of cells h) theme) out
  unfolding search_told
  accepted_told out a =
      judge_clear (λ r. record { answer = Err (Refused r); out = out }) (told (lines_of way (score_of cells h) theme) out) (request_rows most_notes cells h theme) ((accepted_clear most_notes cells h theme).0 a)

  -- ---- when it is refused

  module _ (out : List ℕ) where
    abbrev away : Refusal → Tale
    away r = record { answer = Err (Refused r); out = out }

    abbrev lines : List ℕ
    lines = lines_of way (score_of cells h) theme

    pub search_accepted : ((r : Refusal) → (search_told cells h theme way out).answer ≡ Err (Refused r) → ⊥) ↔ Accepted most_notes cells h theme
    unfolding search_told
    search_accepted = (
      λ f. (accepted_clear most_notes cells h theme).1
          (judge_clear_of away (told lines out) (λ (t : Tale). (r : Refusal) → t.answer ≡ Err (Refused r) → ⊥) (λ r g. g r refl) (request_rows most_notes cells h theme) f),
      λ a r e. never_refused lines out r (sym (ap (λ (t : Tale). t.answer) (accepted_told out a)) ∙ e),
    )

    pub search_refused : (k : Rule) (p : ℕ) → ((search_told cells h theme way out).answer ≡ Err (Refused (record { rule = k; place = p })))
        ↔ (GivenBy (request_rows most_notes cells h theme) k × (p ≡ place_by (request_rows most_notes cells h theme) k))
    unfolding search_told
    search_refused k p =
        answer_refused (λ (t : Tale). t.answer) (λ r. Err (Refused r)) (λ r s e. refused_same e) away (told lines out) (λ r. refl) (never_refused lines out)
        (request_rows most_notes cells h theme) refl k p

    pub search_kept : ((n : ℕ) → (search_told cells h theme way out).answer ≡ Ok n → ⊥) → (search_told cells h theme way out).out ≡ out
    unfolding search_told
    search_kept =
        judge_either away (told lines out) (λ (t : Tale). ((n : ℕ) → t.answer ≡ Ok n → ⊥) → t.out ≡ out) (λ r f. refl) (untold_kept lines out) (request_rows most_notes cells h theme)
