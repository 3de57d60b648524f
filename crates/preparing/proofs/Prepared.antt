-- What a preparation promises, read off its definition: it is accepted exactly where no row of its call applies, refused with
-- a number and a place exactly where that row is the first that does, and then nothing is written; otherwise every set is
-- the one of its column and the next with a pitch, and the answer is their summary. Assumes nothing.
use mathlib.Core.Path.{◌≡◌, refl, sym, ap, ◌∙◌}
use mathlib.Core.Bool.{Bool, true, false, true≢false}
use mathlib.Core.Logic.{◌↔◌, ◌⊎◌, ⊎_elim}
use mathlib.Core.List.{List, []}
use Prim.Native.Nat.{ℕ, ◌+◌, ◌-◌, ◌≤◌, ◌<◌}
use native.Mathlib.Omega.{arith}
use lib.ListN.{length, get_or}
use Rattle.theory.specs.Bits.{bit}
use Rattle.score.specs.declared.refusals.Rule.{Rule}
use Rattle.score.specs.declared.refusals.Refusal.{Refusal}
use Rattle.score.specs.declared.quantities.Interval.{Interval}
use Rattle.score.specs.Limits.{highest_set}
use Rattle.score.specs.Score.{column_at, column, score_of, heard, columns_from, onward}
use Rattle.score.specs.Sets.{Apart, interval_set, next_heard, sets}
use Rattle.score.specs.Refusals.{GivenBy, place_by}
use Rattle.summing.specs.declared.summary.Summary.{Summary}
use Rattle.summing.specs.Summary.{summary_of}
use Rattle.preparing.specs.Preparing.{Filled, prepare_rows, prepared}
use Rattle.score.proofs.IntervalSets.{sets_at, set_bit, set_empty, set_alone}
use Rattle.score.proofs.Judged.{Clear, judge_either, judge_clear, judge_clear_of, answer_refused}
use Rattle.std.specs.Prelude.{Result, Ok, Err}

-- an accepted answer is no refusal
abbrev is_prepared : Result Summary Refusal → Bool
is_prepared (Ok s) = true
is_prepared (Err r) = false

prepared_refused : {s : Summary} {r : Refusal} → Ok s ≡ Err r → ⊥
prepared_refused e = true≢false (ap is_prepared e)

module _ (cells : List ℕ) (h : ℕ) (lent : List ℕ) where
  abbrev refuse : Refusal → Filled
  refuse r = record { answer = Err r; sets = lent }

  abbrev full : Filled
  full = record { answer = Ok (summary_of (sets (score_of cells h))); sets = sets (score_of cells h) }

  pub prepare_accepted : ((s : Summary) × ((prepared cells h lent).answer ≡ Ok s)) ↔ Clear (prepare_rows cells h lent)
  prepare_accepted = (
    λ e.
        judge_clear_of refuse full (λ (x : Filled). x.answer ≡ Ok e.0) (λ r k. prepared_refused (sym k)) (prepare_rows cells h lent) e.1,
    λ c. (summary_of (sets (score_of cells h)), ap (λ (x : Filled). x.answer) (judge_clear refuse full (prepare_rows cells h lent) c)),
  )

  pub prepare_refused : (k : Rule) (p : ℕ) → ((prepared cells h lent).answer ≡ Err (record { rule = k; place = p }))
      ↔ (GivenBy (prepare_rows cells h lent) k × (p ≡ place_by (prepare_rows cells h lent) k))
  prepare_refused k p =
      answer_refused (λ (x : Filled). x.answer) Err (λ r s e. cc) refuse full (λ r. refl) (λ r e. prepared_refused e) (prepare_rows cells h lent) refl k p

  -- a refused call writes nothing, an accepted one fills every set
  pub prepare_kept : (r : Refusal) → (prepared cells h lent).answer ≡ Err r → (prepared cells h lent).sets ≡ lent
  prepare_kept r =
      judge_either refuse full (λ (x : Filled). x.answer ≡ Err r → x.sets ≡ lent) (λ s e. refl) (λ e. absurd (prepared_refused e)) (prepare_rows cells h lent)

  pub prepare_fills : {s : Summary} → (prepared cells h lent).answer ≡ Ok s → (prepared cells h lent).sets ≡ sets (score_of cells h)
  prepare_fills {s} =
      judge_either refuse full (λ (x : Filled). x.answer ≡ Ok s → x.sets ≡ sets (score_of cells h)) (λ r e. absurd (prepared_refused (sym e)))
      (λ e. refl) (prepare_rows cells h lent)

  -- and answers their summary
  pub prepare_sums : {s : Summary} → (prepared cells h lent).answer ≡ Ok s → s ≡ summary_of (sets (score_of cells h))
  prepare_sums {s} =
      judge_either refuse full (λ (x : Filled). x.answer ≡ Ok s → s ≡ summary_of (sets (score_of cells h)))
      (λ r e. absurd (prepared_refused (sym e))) (λ e. cc) (prepare_rows cells h lent)

  -- entry k, from 1
  entry : {s : Summary} → (prepared cells h lent).answer ≡ Ok s → (k : ℕ) → 1 ≤ k → k < length (score_of cells h)
      → get_or (prepared cells h lent).sets (k - 1) 0
      ≡ interval_set (column (score_of cells h) (column_at k)) (next_heard (columns_from (score_of cells h) (column_at (k + 1))))
  entry e k low high =
      let b : k - 1 + 1 ≡ k = omega arith in
      let c : k + 1 - 1 ≡ k = omega arith in
      let at = sets_at (score_of cells h) (k - 1) (omega arith) in
      rw (prepare_fills e, at, b, c)

  -- entry k, from 1, belongs to column k and the next with a pitch: its bit d is 0 exactly when they have pitches d apart
  pub prepare_bit : {s : Summary} → (prepared cells h lent).answer ≡ Ok s → (k : ℕ) → 1 ≤ k → k < length (score_of cells h) → (d : Interval) → d.0 < 12
      → (bit (get_or (prepared cells h lent).sets (k - 1) 0) d.0 ≡ 0)
      ↔ Apart (column (score_of cells h) (column_at k)) (next_heard (columns_from (score_of cells h) (column_at (k + 1)))) d
  prepare_bit e k low high d small =
      rw (entry e k low high) (set_bit (column (score_of cells h) (column_at k)) (next_heard (columns_from (score_of cells h) (column_at (k + 1)))) d small)

  -- it is 4095 where column k is empty, and where no column with a pitch follows
  pub prepare_empty : {s : Summary} → (prepared cells h lent).answer ≡ Ok s → (k : ℕ) → 1 ≤ k → k < length (score_of cells h)
      → (heard (column (score_of cells h) (column_at k)) ≡ false) ⊎ (onward (score_of cells h) (column_at (k + 1)) ≡ [])
      → get_or (prepared cells h lent).sets (k - 1) 0 ≡ highest_set
  prepare_empty e k low high why =
      entry e k low high
      ∙ ⊎_elim
      (λ own. set_empty (column (score_of cells h) (column_at k)) (next_heard (columns_from (score_of cells h) (column_at (k + 1)))) own)
      (λ none. rw none (set_alone (column (score_of cells h) (column_at k)) [] refl))
      why
