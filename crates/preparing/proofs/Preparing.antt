-- A preparation: from the checks' verdicts to what the call promises, and that the promise settles the answer and the sets
-- (`prepares_unique`). The idea: the rows of the call are the rows of the checks, one after the other. Assumes nothing.
use mathlib.Core.Path.{◌≡◌, refl, sym, ap, ◌∙◌}
use mathlib.Core.Bool.{true, false}
use mathlib.Core.List.{List, [], ◌∷◌}
use Prim.Native.Nat.{ℕ, ◌+◌, ◌-◌, ◌*◌, ◌≤◌}
use native.Mathlib.Omega.{arith}
use lib.ListN.{length}
use borrow.Author.Tests.{not-false, eqb-true}
use Rattle.score.specs.declared.refusals.Rule.TheVariants as rule
use Rattle.score.specs.declared.refusals.Refusal.{Refusal}
use Rattle.score.specs.Limits.{most_columns}
use Rattle.score.specs.Score.{cut, columns_in, score_of}
use Rattle.score.specs.Sets.{sets}
use Rattle.score.specs.Refusals.{Row, verdict, row1, row2, row3, row6}
use Rattle.summing.specs.declared.summary.Summary.{Summary}
use Rattle.summing.specs.Summary.{summary_of}
use Rattle.preparing.specs.Preparing.{Filled, prepared, Prepares}
use Rattle.score.proofs.Columns.{columns_whole}
use Rattle.score.proofs.Judging.{judge_refused, judge_accepted, judge_here, judge_next}
use Rattle.score.proofs.Sound.{score_sound}
use Rattle.std.specs.Prelude.{Result, Ok, Err}

module _ (cells : List ℕ) (h : ℕ) (lent : List ℕ) where
  abbrev rows : List Row
  rows = row1 h ∷ row2 cells h ∷ row3 cells ∷ []

  abbrev refuse : Refusal → Filled
  refuse r = record { answer = Err r; sets = lent }

  abbrev full : Filled
  full = record { answer = Ok (summary_of (sets (score_of cells h))); sets = sets (score_of cells h) }

  settled : {x : Filled} {answer : Result Summary Refusal} {after : List ℕ} → prepared cells h lent ≡ x → answer ≡ x.answer → after ≡ x.sets
      → Prepares cells h lent answer after
  settled e a s = record { answers = a ∙ sym (ap (λ (x : Filled). x.answer) e); fills = s ∙ sym (ap (λ (x : Filled). x.sets) e) }

  pub prepares_refused : {r : Refusal} → verdict rows ≡ Err r → Prepares cells h lent (Err r) lent
  prepares_refused e = settled (judge_refused refuse full rows (row6 cells h lent ∷ []) e) refl refl

  module _ (e : verdict rows ≡ Ok tt) where
    pub prepares_long : (row6 cells h lent).applies ≡ true → Prepares cells h lent (Err (record { rule = rule.SetsLength; place = 0 })) lent
    prepares_long k = settled (judge_accepted refuse full rows (row6 cells h lent ∷ []) e ∙ judge_here refuse full (row6 cells h lent) [] k) refl refl

    module _ (k : (row6 cells h lent).applies ≡ false) where
      columns : length lent + 1 ≡ columns_in cells h
      columns = let n : length lent ≡ columns_in cells h - 1 = eqb-true _ _ (not-false _ k) in omega (arith, (score_sound cells h e).columns)

      -- there is room for a column more than there are sets
      pub prepares_room : (length lent + 1) * h ≤ length cells
      prepares_room = rw columns (omega (arith, columns_whole cells h (score_sound cells h e).whole))

      -- and no more sets than the most columns
      pub prepares_few : length lent ≤ most_columns
      prepares_few = omega (arith, columns, (score_sound cells h e).few_columns)

      pub prepares_filled : {after : List ℕ} {summary : Summary} → after ≡ sets (cut (length lent + 1) h cells) → summary ≡ summary_of after
          → Prepares cells h lent (Ok summary) after
      prepares_filled s m =
          let own = s ∙ ap (λ (n : ℕ). sets (cut n h cells)) columns in
          settled (judge_accepted refuse full rows (row6 cells h lent ∷ []) e ∙ judge_next refuse full (row6 cells h lent) [] k)
          (ap Ok (m ∙ ap summary_of own)) own

  -- one answer, and one content of the sets
  pub prepares_unique : {a b : Result Summary Refusal} {s t : List ℕ} → Prepares cells h lent a s → Prepares cells h lent b t → (a ≡ b) × (s ≡ t)
  prepares_unique p q = (p.answers ∙ sym q.answers, p.fills ∙ sym q.fills)
