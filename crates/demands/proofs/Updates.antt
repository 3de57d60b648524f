-- The update, over its promise: sets that were right before are right after, and each set by itself. Assumes nothing.
use mathlib.Core.Path.{◌≡◌, refl, sym, ap, ◌∙◌}
use mathlib.Core.Bool.{Bool, true, false, cond, ◌||◌, false≢true}
use mathlib.Core.Logic.{◌⊎◌, inl, inr, ⊎_elim}
use mathlib.Core.List.{List}
use Prim.Native.Nat.{ℕ, ◌+◌, ◌-◌, ◌≤◌}
use native.Mathlib.Omega.{arith}
use lib.Dec.{eqb}
use lib.ListN.{length, get_or}
use borrow.Author.Tests.{eq-eqb, ne_eqb}
use Rattle.theory.proofs.Lists.{count_map_length, count_map_at}
use Rattle.score.specs.declared.quantities.Column.{Column}
use Rattle.score.specs.Score.{score_of}
use Rattle.score.specs.Sets.{sets as setsOf}
use Rattle.score.proofs.Judged.{judge_clear}
use Rattle.summing.specs.declared.summary.Summary.{Summary}
use Rattle.summing.specs.Summary.{summary_of}
use Rattle.preparing.specs.Preparing.{Filled, prepare_rows, prepared, Prepares}
use Rattle.updating.specs.Updating.{heard_before, rests_on, updated_sets, Updates, OneChanged}
use Rattle.updating.proofs.Updated.{update_accepted, update_leaves, clear_renewable}
use Rattle.updating.proofs.Fresh.{fresh_sets}
use Rattle.std.specs.Prelude.{Result, Ok, Err}

module _ (cells : List ℕ) (h : ℕ) (c : Column) {lent : List ℕ} {s : Summary} {after : List ℕ} (u : Updates cells h c lent (Ok s) after) where
  left : after ≡ updated_sets (score_of cells h) c lent
  left = u.writes ∙ (update_leaves cells h c lent (sym u.answers)).0

  -- ---- right before, right after

  pub renewed_fresh : (before : List ℕ) → OneChanged c (score_of before h) (score_of cells h) → lent ≡ setsOf (score_of before h)
      → Prepares cells h lent (Ok s) after
  renewed_fresh before one own =
      let k = (update_accepted cells h c lent).0 (s, sym u.answers) in
      let low = (clear_renewable cells h c lent k).from_first in
      let now : after ≡ setsOf (score_of cells h) = left ∙ ap (updated_sets (score_of cells h) c) own ∙ fresh_sets one low in
      let full : Filled = record { answer = Ok (summary_of (setsOf (score_of cells h))); sets = setsOf (score_of cells h) } in
      let e : prepared cells h lent ≡ full =
      judge_clear (λ r. record { answer = Err r; sets = lent }) full (prepare_rows cells h lent) (k.0, (k.1.0, (k.1.1.0, (k.1.1.1.0, tt)))) in
      let said : s ≡ summary_of (setsOf (score_of cells h)) =
      (update_leaves cells h c lent (sym u.answers)).1 ∙ ap summary_of (sym left ∙ now) in
      record {
        answers = ap Ok said ∙ sym (ap (λ (x : Filled). x.answer) e);
        fills = now ∙ sym (ap (λ (x : Filled). x.sets) e);
      }

  -- ---- each set

  abbrev entry : ℕ → ℕ
  entry k = cond (rests_on (score_of cells h) c k) (get_or (setsOf (score_of cells h)) (k - 1) 0) (get_or lent (k - 1) 0)

  entry_at : (k : ℕ) → 1 ≤ k → k ≤ length lent → get_or after (k - 1) 0 ≡ entry k
  unfolding updated_sets
  entry_at k low high =
      let e : 1 + (k - 1) ≡ k = omega arith in
      ap (λ (l : List ℕ). get_or l (k - 1) 0) left ∙ count_map_at entry 1 (length lent) (k - 1) 0 (omega arith) ∙ ap entry e

  either : (a b : Bool) → (a ≡ true) ⊎ (b ≡ true) → (a || b) ≡ true
  either true b e = refl
  either false b e = ⊎_elim (λ x. absurd (false≢true x)) (λ x. x) e

  pub renewed_length : length after ≡ length lent
  unfolding updated_sets
  renewed_length = ap length left ∙ count_map_length entry 1 (length lent)

  pub renewed_own : (k : ℕ) → 1 ≤ k → k ≤ length lent → (k ≡ c.0) ⊎ (k ≡ heard_before (score_of cells h) c)
      → get_or after (k - 1) 0 ≡ get_or (setsOf (score_of cells h)) (k - 1) 0
  renewed_own k low high e =
      entry_at k low high
      ∙ ap (λ (b : Bool). cond b (get_or (setsOf (score_of cells h)) (k - 1) 0) (get_or lent (k - 1) 0))
      (either (eqb k c.0) (eqb k (heard_before (score_of cells h) c))
      (⊎_elim (λ x. inl (eq-eqb k c.0 x)) (λ x. inr (eq-eqb k (heard_before (score_of cells h) c) x)) e))

  pub renewed_other : (k : ℕ) → 1 ≤ k → k ≤ length lent → (k ≡ c.0 → ⊥) → (k ≡ heard_before (score_of cells h) c → ⊥)
      → get_or after (k - 1) 0 ≡ get_or lent (k - 1) 0
  renewed_other k low high a b = entry_at k low high ∙ rw (ne_eqb k c.0 a, ne_eqb k (heard_before (score_of cells h) c) b)
