-- Judging by rows: rows in two parts, what a verdict says of any answer that is made by the same rows, a check in two parts, and the
-- rows that apply where there are no tracks. The idea: the first row that applies decides. Assumes nothing.
use mathlib.Core.Path.{◌≡◌, refl, sym, ap, subst, ◌∙◌}
use mathlib.Core.Bool.{Bool, true, false, cond, not, ◌||◌}
use mathlib.Core.List.{List, [], ◌∷◌, ◌++◌, append-nil}
use Prim.Native.Nat.{ℕ, ◌%◌}
use native.Mathlib.Nat.{div-zero}
use native.Mathlib.Omega.{arith}
use lib.Dec.{eqb}
use lib.ListN.{length}
use Rattle.score.specs.declared.refusals.Refusal.{Refusal}
use Rattle.score.specs.Refusals.{Row, judge, verdict, row2}
use Rattle.std.specs.Prelude.{Result, Ok, Err}

module _ {A : Type 0} (f : Refusal → A) (a : A) where
  -- a row that applies, and one that does not
  pub judge_here : (r : Row) (rows : List Row) → r.applies ≡ true → judge (r ∷ rows) f a ≡ f r.given
  judge_here r rows e = rw e

  pub judge_next : (r : Row) (rows : List Row) → r.applies ≡ false → judge (r ∷ rows) f a ≡ judge rows f a
  judge_next r rows e = rw e

  pub judge_append : (rows more : List Row) → judge (rows ++ more) f a ≡ judge rows f (judge more f a)
  judge_append [] more = refl
  judge_append (r ∷ rows) more = ap (cond r.applies (f r.given)) (judge_append rows more)

  -- from a verdict to an answer by the same rows, and more after them
  pub judge_refused : (rows more : List Row) {r : Refusal} → verdict rows ≡ Err r → judge (rows ++ more) f a ≡ f r
  judge_refused [] more {r} e = absurd (never r e)
    where
      never : (r : Refusal) → Ok (tt {0}) ≡ Err r → ⊥
      never r e = let z : ◌≡◌ {A = ℕ} 0 1 = cc in omega arith
  judge_refused (x ∷ rows) more {r} e = step x.applies e (judge_refused rows more)
    where
      step : (b : Bool) → cond b (Err x.given) (verdict rows) ≡ Err r → (verdict rows ≡ Err r → judge (rows ++ more) f a ≡ f r)
          → cond b (f x.given) (judge (rows ++ more) f a) ≡ f r
      step true k ih = let given : x.given ≡ r = cc in ap f given
      step false k ih = ih k

  pub judge_away : (rows : List Row) {r : Refusal} → verdict rows ≡ Err r → judge rows f a ≡ f r
  judge_away rows {r} e = subst (λ (rs : List Row). judge rs f a ≡ f r) (append-nil rows) (judge_refused rows [] e)

  pub judge_accepted : (rows more : List Row) → verdict rows ≡ Ok tt → judge (rows ++ more) f a ≡ judge more f a
  judge_accepted [] more e = refl
  judge_accepted (x ∷ rows) more e = step x.applies e (judge_accepted rows more)
    where
      step : (b : Bool) → cond b (Err x.given) (verdict rows) ≡ Ok tt → (verdict rows ≡ Ok tt → judge (rows ++ more) f a ≡ judge more f a)
          → cond b (f x.given) (judge (rows ++ more) f a) ≡ judge more f a
      step true k ih = absurd (let z : ◌≡◌ {A = ℕ} 0 1 = cc in omega arith)
      step false k ih = ih k

-- a check that goes through rows and then through more: where the first turn away it does, and where they accept it says what the
-- others say
module _ (rows more : List Row) {v : Result (Unit {0}) Refusal} (checked : v ≡ verdict rows) where
  pub turned_away : {e : Refusal} → v ≡ Err e → Err e ≡ verdict (rows ++ more)
  turned_away k = sym (judge_refused Err (Ok tt) rows more (sym checked ∙ k))

  pub gone_on : v ≡ Ok tt → {w : Result (Unit {0}) Refusal} → w ≡ verdict more → w ≡ verdict (rows ++ more)
  gone_on k e = e ∙ sym (judge_accepted Err (Ok tt) rows more (sym checked ∙ k))

-- no tracks make no columns
pub without_tracks : (cells : List ℕ) → (row2 cells 0).applies ≡ true
without_tracks cells = rw div-zero (step (not (eqb (length cells % 0) 0)))
  where
    step : (b : Bool) → (b || true || false) ≡ true
    step true = refl
    step false = refl
