-- Checks in order: where the rows so far turn away, the call does; where they accept, what the rows after them say is what
-- the call says. The rows of a call are given in parts, as the code goes through them. Assumes nothing.
use mathlib.Core.Path.{◌≡◌, sym, ◌∙◌}
use mathlib.Core.Bool.{Bool, true, false, ◌||◌}
use mathlib.Core.List.{List, [], ◌∷◌, ◌++◌}
use Prim.Native.Nat.{ℕ, ◌+◌, ◌-◌}
use native.Mathlib.Omega.{arith}
use lib.Dec.{eqb, ltb}
use borrow.Author.Tests.{eq-eqb, ne_eqb, lt-ltb, le-ltb, ltb-true, ltb-false}
use Rattle.score.specs.Limits.{table_words}
use Rattle.score.specs.declared.refusals.Rule.TheVariants as rule
use Rattle.score.specs.declared.refusals.Refusal.{Refusal}
use Rattle.score.specs.Refusals.{Row, verdict, row1, row2, row3, row6, row7}
use Rattle.score.proofs.Judging.{turned_away, gone_on}
use Rattle.asking.specs.Refusals.{row8, sets_rows}
use Rattle.std.specs.Prelude.{Result, Ok, Err}

-- the rows of `check_score` and of `check_sets`
abbrev pub score_rows : (cells : List ℕ) (h : ℕ) → List Row
score_rows cells h = row1 h ∷ row2 cells h ∷ row3 cells ∷ []

abbrev lent_rows : (cells : List ℕ) (h : ℕ) (sets : List ℕ) → List Row
lent_rows cells h sets = row6 cells h sets ∷ row7 sets ∷ []

-- a quick call, which goes on from the rows of the score and the theme to the sets, and from those to the table
module _ (request : List Row) (cells : List ℕ) (h : ℕ) (sets : List ℕ) (table : ℕ) (page : List Row) {v w : Result (Unit {0}) Refusal} (checked : v ≡ verdict request)
    (passed : v ≡ Ok tt) (lent : w ≡ verdict (lent_rows cells h sets)) where
  abbrev quickly : Result (Unit {0}) Refusal
  quickly = verdict (request ++ (sets_rows cells h sets table ++ page))

  pub sets_away : {e : Refusal} → w ≡ Err e → Err e ≡ quickly
  sets_away k = gone_on request (sets_rows cells h sets table ++ page) checked passed (turned_away (lent_rows cells h sets) (row8 table ∷ page) lent k)

  pub sets_on : w ≡ Ok tt → {x : Result (Unit {0}) Refusal} → x ≡ verdict (row8 table ∷ page) → x ≡ quickly
  sets_on k e = gone_on request (sets_rows cells h sets table ++ page) checked passed (gone_on (lent_rows cells h sets) (row8 table ∷ page) lent k e)

-- a table of another length, and one of the right length
pub table_away : (table : ℕ) (more : List Row) → (table ≡ table_words → ⊥) → {v : Result (Unit {0}) Refusal} → v ≡ Err (record { rule = rule.TableLength; place = 0 }) → v ≡ verdict (row8 table ∷ more)
table_away table more n e = e ∙ rw (ne_eqb table table_words n)

pub table_on : (table : ℕ) (more : List Row) → table ≡ table_words → {v : Result (Unit {0}) Refusal} → v ≡ verdict more → v ≡ verdict (row8 table ∷ more)
table_on table more q e = e ∙ rw (eq-eqb table table_words q)

-- a column past n + 1, without the sum
pub past_column : (n j : ℕ) → (j ≡ 0 → ⊥) → ltb n (j - 1) ≡ (eqb j 0 || ltb (n + 1) j)
past_column n j k = same (ltb n (j - 1)) refl' ∙ sym (none (eqb j 0) (ne_eqb j 0 k))
  where
    refl' : ltb n (j - 1) ≡ ltb n (j - 1)
    refl' = mathlib.Core.Path.refl

    none : (b : Bool) → b ≡ false → (b || ltb (n + 1) j) ≡ ltb (n + 1) j
    none b e = rw e

    same : (b : Bool) → ltb n (j - 1) ≡ b → b ≡ ltb (n + 1) j
    same true e = sym (lt-ltb (n + 1) j (omega (arith, ltb-true n (j - 1) e)))
    same false e = sym (le-ltb (n + 1) j (omega (arith, ltb-false n (j - 1) e)))
