-- The answer without a walk: a row of the call applies, or the summary is not right, or it lacks an interval of the theme and
-- then there is no pair. Assumes nothing.
use mathlib.Core.Path.{◌≡◌, refl, sym, ap, ◌∙◌}
use mathlib.Core.Bool.{Bool, true, false, cond, not}
use mathlib.Core.List.{List, [], ◌∷◌, ◌++◌}
use Prim.Native.Nat.{ℕ, ◌≤◌}
use native.Mathlib.Omega.{arith}
use lib.Dec.{eqb}
use lib.ListN.{length}
use borrow.Author.Tests.{eq-eqb, ne_eqb}
use Rattle.score.specs.Limits.{table_words}
use Rattle.score.specs.declared.refusals.Refusal.{Refusal}
use Rattle.score.specs.Score.{score_of}
use Rattle.score.specs.Refusals.{Row, row, judge, verdict}
use Rattle.score.proofs.Judging.{judge_here, judge_next, judge_refused, judge_accepted}
use Rattle.score.proofs.Judged.{clear_split, verdict_clear}
use Rattle.summing.specs.Summary.{summary}
use Rattle.ways.specs.declared.way.Way.{Way}
use Rattle.asking.specs.Limits.{most_notes}
use Rattle.asking.specs.Refusals.{request_rows, sets_rows, with_sets_rows}
use Rattle.asking.specs.Asking.{Accepted, AcceptedSets}
use Rattle.asking.proofs.Rows.{accepted_clear, sets_clear}
use Rattle.filter.specs.Limits.{word_bits}
use Rattle.filter.specs.Table.{theme_table, table_after}
use Rattle.occurring.specs.Occurring.{lacking, quick_list, by_list, OccursBy}
use Rattle.occurring.proofs.Absent.{lacking_none}
use Rattle.std.specs.Prelude.{Result, Ok, Err}

module _ (cells : List ℕ) (h : ℕ) (theme sets table : List ℕ) where
  abbrev rows : List Row
  rows = with_sets_rows cells h theme sets (length table)

  -- what is known where none of these rows applies
  pub record Ready : Type 0 where
    pub accepted : Accepted most_notes cells h theme
    pub with_sets : AcceptedSets cells h sets
    pub table_long : length table ≡ table_words

  pub ready : verdict rows ≡ Ok tt → Ready
  ready e =
      let (request, lent) = clear_split (request_rows most_notes cells h theme) (sets_rows cells h sets (length table)) (verdict_clear rows e) in
      let (with_sets, long) = (sets_clear cells h sets table).1 lent in
      record { accepted = (accepted_clear most_notes cells h theme).1 request; with_sets = with_sets; table_long = long }

  module _ (more : Row) (way : Way) where
    abbrev answer : Result Bool Refusal
    answer = by_list (quick_list way (score_of cells h) theme sets)

    abbrev filled : List ℕ
    filled = theme_table word_bits theme

    -- one of the rows of what was prepared
    pub away_answers : {r : Refusal} → verdict rows ≡ Err r → OccursBy (rows ++ more ∷ []) cells h theme way sets table (Err r) table
    away_answers e =
        record {
          answers = sym (judge_refused Err answer rows (more ∷ []) e);
          fills_table = sym (judge_refused (λ r. table) (theme_table word_bits theme) rows (more ∷ []) e);
        }

    module _ (e : verdict rows ≡ Ok tt) where
      -- the row after them
      pub more_answers : more.applies ≡ true → OccursBy (rows ++ more ∷ []) cells h theme way sets table (Err more.given) table
      more_answers k =
          record {
            answers = sym (judge_accepted Err answer rows (more ∷ []) e ∙ judge_here Err answer more [] k);
            fills_table =
                sym (judge_accepted (λ r. table) filled rows (more ∷ []) e ∙ judge_here (λ r. table) filled more [] k);
          }

      -- no row: the theme's table is filled, and the answer is no
      pub none_answers : {o : Result Bool Refusal} {table' : List ℕ} → more.applies ≡ false → lacking theme (summary sets) ≡ true → o ≡ Ok false
          → table' ≡ table_after word_bits theme table → OccursBy (rows ++ more ∷ []) cells h theme way sets table o table'
      none_answers k l n f =
          let r = ready e in
          let some_notes : length theme ≡ 0 → ⊥ = λ z. omega (arith, z, r.accepted.notes_some) in
          let after : table_after word_bits theme table ≡ filled =
          rw (ne_eqb (length theme) 0 some_notes, eq-eqb (length table) table_words r.table_long) in
          record {
            answers =
                let none = lacking_none cells h theme way sets r.accepted r.with_sets l in
                n ∙ sym (judge_accepted Err answer rows (more ∷ []) e ∙ judge_next Err answer more [] k ∙ ap by_list none);
            fills_table =
                f ∙ after ∙ sym (judge_accepted (λ r. table) filled rows (more ∷ []) e ∙ judge_next (λ r. table) filled more [] k);
          }
