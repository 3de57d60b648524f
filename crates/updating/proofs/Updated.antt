-- What an update promises, read off its definition: it is accepted exactly where no row of its call applies, refused with a
-- number and a place exactly where that row is the first that does, and then nothing is written. And from the checks' verdict to
-- what the call promises. Assumes nothing.
use mathlib.Core.Path.{◌≡◌, refl, sym, ap, ◌∙◌}
use mathlib.Core.Bool.{Bool, true, false, ◌||◌, true≢false}
use mathlib.Core.Logic.{◌↔◌}
use mathlib.Core.List.{List, [], ◌∷◌, ◌++◌}
use Prim.Native.Nat.{ℕ, ◌+◌, ◌*◌, ◌≤◌, ◌<◌}
use native.Mathlib.Nat.{pos_of_ne-zero}
use native.Mathlib.Omega.{arith}
use lib.Dec.{eqb, ltb}
use lib.ListN.{length}
use borrow.Author.Tests.{eqb-false, ltb-false}
use Rattle.score.specs.declared.refusals.Rule.{Rule}
use Rattle.score.specs.declared.quantities.Column.{Column}
use Rattle.score.specs.declared.refusals.Refusal.{Refusal}
use Rattle.score.specs.Score.{columns_in, score_of}
use Rattle.score.specs.Refusals.{Row, verdict, row1, row2, row3, row6, row7, GivenBy, place_by}
use Rattle.score.proofs.Columns.{columns_whole}
use Rattle.score.proofs.Judging.{judge_away, turned_away, gone_on}
use Rattle.score.proofs.Judged.{Clear, clear_split, judge_either, judge_clear, judge_clear_of, verdict_clear, answer_refused}
use Rattle.score.proofs.Sound.{score_sound, sets_sound}
use Rattle.summing.specs.declared.summary.Summary.{Summary}
use Rattle.summing.specs.Summary.{summary_of}
use Rattle.updating.specs.Updating.{row19, update_rows, updated_sets, Renewed, renewed, Updates}
use Rattle.std.specs.Prelude.{Result, Ok, Err}

-- an accepted answer is no refusal
abbrev is_updated : Result Summary Refusal → Bool
is_updated (Ok s) = true
is_updated (Err r) = false

updated_refused : {s : Summary} {r : Refusal} → Ok s ≡ Err r → ⊥
updated_refused e = true≢false (ap is_updated e)

none_or : (a b : Bool) → (a || b) ≡ false → (a ≡ false) × (b ≡ false)
none_or true b e = absurd (true≢false e)
none_or false b e = (refl, e)

-- what is known of an accepted update
pub record Renewable (cells : List ℕ) (h : ℕ) (c : Column) (lent : List ℕ) : Type 0 where
  pub long : length lent + 1 ≡ columns_in cells h
  pub few : columns_in cells h < 65536
  pub room : columns_in cells h * h ≤ length cells
  pub from_first : 1 ≤ c.0
  pub to_last : c.0 ≤ columns_in cells h

module _ (cells : List ℕ) (h : ℕ) (c : Column) (lent : List ℕ) where
  abbrev rows : List Row
  rows = update_rows cells h c lent

  abbrev after : List ℕ
  after = updated_sets (score_of cells h) c lent

  abbrev refuse : Refusal → Renewed
  refuse r = record { answer = Err r; sets = lent }

  abbrev full : Renewed
  full = record { answer = Ok (summary_of after); sets = after }

  pub update_accepted : ((s : Summary) × ((renewed cells h c lent).answer ≡ Ok s)) ↔ Clear rows
  update_accepted = (
    λ e. judge_clear_of refuse full (λ (x : Renewed). x.answer ≡ Ok e.0) (λ r k. updated_refused (sym k)) rows e.1,
    λ k. (summary_of after, ap (λ (x : Renewed). x.answer) (judge_clear refuse full rows k)),
  )

  pub update_refused : (k : Rule) (p : ℕ) → ((renewed cells h c lent).answer ≡ Err (record { rule = k; place = p }))
      ↔ (GivenBy rows k × (p ≡ place_by rows k))
  update_refused k p =
      answer_refused (λ (x : Renewed). x.answer) Err (λ r s e. cc) refuse full (λ r. refl) (λ r e. updated_refused e) rows refl k p

  -- a refused call writes nothing; an accepted one leaves the updated sets, and answers their summary
  pub update_kept : (r : Refusal) → (renewed cells h c lent).answer ≡ Err r → (renewed cells h c lent).sets ≡ lent
  update_kept r =
      judge_either refuse full (λ (x : Renewed). x.answer ≡ Err r → x.sets ≡ lent) (λ s e. refl) (λ e. absurd (updated_refused e)) rows

  pub update_leaves : {s : Summary} → (renewed cells h c lent).answer ≡ Ok s → ((renewed cells h c lent).sets ≡ after) × (s ≡ summary_of after)
  update_leaves {s} =
      judge_either refuse full (λ (x : Renewed). x.answer ≡ Ok s → (x.sets ≡ after) × (s ≡ summary_of after))
      (λ r e. absurd (updated_refused (sym e))) (λ e. (refl, cc)) rows

  -- ---- from the checks to the verdict

  abbrev score_rows : List Row
  score_rows = row1 h ∷ row2 cells h ∷ row3 cells ∷ []

  abbrev sets_rows : List Row
  sets_rows = row6 cells h lent ∷ row7 lent ∷ []

  abbrev column_row : Row
  column_row = row19 (columns_in cells h) c

  module _ {v : Result (Unit {0}) Refusal} (checked : v ≡ verdict score_rows) where
    pub score_away : {e : Refusal} → v ≡ Err e → Err e ≡ verdict rows
    score_away k = turned_away score_rows (sets_rows ++ column_row ∷ []) checked k

    module _ (passed : v ≡ Ok tt) {w : Result (Unit {0}) Refusal} (lent-checked : w ≡ verdict sets_rows) where
      pub sets_away : {e : Refusal} → w ≡ Err e → Err e ≡ verdict rows
      sets_away k = gone_on score_rows (sets_rows ++ column_row ∷ []) checked passed (turned_away sets_rows (column_row ∷ []) lent-checked k)

      module _ (lent-passed : w ≡ Ok tt) where
        on : {x : Result (Unit {0}) Refusal} → x ≡ verdict (column_row ∷ []) → x ≡ verdict rows
        on e = gone_on score_rows (sets_rows ++ column_row ∷ []) checked passed (gone_on sets_rows (column_row ∷ []) lent-checked lent-passed e)

        pub column_away : column_row.applies ≡ true → Err column_row.given ≡ verdict rows
        column_away k = on (rw k)

        pub column_passed : column_row.applies ≡ false → (Ok tt) ≡ verdict rows
        column_passed k = on (rw k)

  -- ---- from the verdict to what the call promises

  settled : {x : Renewed} {answer : Result Summary Refusal} {sets : List ℕ} → renewed cells h c lent ≡ x → answer ≡ x.answer → sets ≡ x.sets
      → Updates cells h c lent answer sets
  settled e a s = record { answers = a ∙ sym (ap (λ (x : Renewed). x.answer) e); writes = s ∙ sym (ap (λ (x : Renewed). x.sets) e) }

  pub updates_away : {r : Refusal} → verdict rows ≡ Err r → Updates cells h c lent (Err r) lent
  updates_away e = settled (judge_away refuse full rows e) refl refl

  -- what is known where no row applies
  pub clear_renewable : Clear rows → Renewable cells h c lent
  clear_renewable clear =
      let first = clear_split score_rows (sets_rows ++ column_row ∷ []) clear in
      let second = clear_split sets_rows (column_row ∷ []) first.1 in
      let score = score_sound cells h (judge_clear Err (Ok tt) score_rows first.0) in
      let sets = sets_sound cells h lent (judge_clear Err (Ok tt) sets_rows second.0) in
      let column = none_or (eqb c.0 0) (ltb (columns_in cells h) c.0) second.1.0 in
      record {
        long = omega (arith, sets.long, score.columns);
        few = omega (arith, score.few_columns);
        room = omega (arith, columns_whole cells h score.whole);
        from_first = pos_of_ne-zero (eqb-false c.0 0 column.0);
        to_last = ltb-false (columns_in cells h) c.0 column.1;
      }

  module _ (e : verdict rows ≡ Ok tt) where
    clear : Clear rows
    clear = verdict_clear rows e

    pub updates_done : {sets : List ℕ} {s : Summary} → sets ≡ after → s ≡ summary_of sets → Updates cells h c lent (Ok s) sets
    updates_done q m = settled (judge_clear refuse full rows clear) (ap Ok (m ∙ ap summary_of q)) q

    pub renewable : Renewable cells h c lent
    renewable = clear_renewable clear

  -- one answer, and one content of the sets
  pub updates_unique : {a b : Result Summary Refusal} {s t : List ℕ} → Updates cells h c lent a s → Updates cells h c lent b t → (a ≡ b) × (s ≡ t)
  updates_unique p q = (p.answers ∙ sym q.answers, p.writes ∙ sym q.writes)
