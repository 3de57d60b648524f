-- What `judge` comes to, over any rows: what is accepted where no row applies, and otherwise what the first row that
-- applies gives, exactly. Where no number stands at two rows, whatever their order, a number tells its row. Assumes nothing.
use mathlib.Core.Path.{◌≡◌, refl, sym, ap, ◌∙◌}
use mathlib.Core.Bool.{Bool, true, false, cond, true≢false}
use mathlib.Core.Logic.{◌↔◌}
use mathlib.Core.List.{List, [], ◌∷◌, ◌++◌}
use Prim.Native.Nat.{ℕ}
use native.Mathlib.Omega.{arith}
use lib.Dec.{eqb}
use borrow.Author.Tests.{eq-eqb, ne_eqb, eqb-true}
use Rattle.theory.specs.Lists.{some}
use Rattle.score.specs.declared.refusals.Refusal.{Refusal}
use Rattle.score.specs.declared.refusals.Rule.{Rule}
use Rattle.score.specs.declared.refusals.Rule.TheVariants as rule
use Rattle.score.specs.Refusals.{Row, number_of, judge, verdict, distinct, GivenBy, place_by}
use Rattle.std.specs.Prelude.{Ok, Err}

-- no row applies
abbrev pub Clear : List Row → Type 0
Clear [] = Unit {0}
Clear (row ∷ rows) = (row.applies ≡ false) × Clear rows

pub clear_append : (rows more : List Row) → Clear rows → Clear more → Clear (rows ++ more)
clear_append [] more c d = d
clear_append (row ∷ rows) more c d = (c.0, clear_append rows more c.1 d)

pub clear_split : (rows more : List Row) → Clear (rows ++ more) → Clear rows × Clear more
clear_split [] more c = (tt, c)
clear_split (row ∷ rows) more c = let d = clear_split rows more c.1 in ((c.0, d.0), d.1)

abbrev pub number : Row → ℕ
number row = number_of row.given.rule

-- ---- a number tells its rule

-- the rule of a number; of a number that no rule has, the first
rule_of : ℕ → Rule
rule_of n =
    cond (eqb n 2) rule.Columns (cond (eqb n 3) rule.Cell (cond (eqb n 4) rule.Notes (cond (eqb n 5) rule.Note
    (cond (eqb n 6) rule.SetsLength (cond (eqb n 7) rule.Set (cond (eqb n 8) rule.TableLength (cond (eqb n 9) rule.Room
    (cond (eqb n 10) rule.Bookmark (cond (eqb n 12) rule.Summary (cond (eqb n 13) rule.Listed (cond (eqb n 14) rule.RouteRoom
    (cond (eqb n 19) rule.Column rule.Tracks))))))))))))

rule_told : (r : Rule) → rule_of (number_of r) ≡ r
unfolding rule_of
rule_told rule.Tracks = refl
rule_told rule.Columns = refl
rule_told rule.Cell = refl
rule_told rule.Notes = refl
rule_told rule.Note = refl
rule_told rule.SetsLength = refl
rule_told rule.Set = refl
rule_told rule.TableLength = refl
rule_told rule.Room = refl
rule_told rule.Bookmark = refl
rule_told rule.Summary = refl
rule_told rule.Listed = refl
rule_told rule.RouteRoom = refl
rule_told rule.Column = refl

pub one_rule : (r s : Rule) → number_of r ≡ number_of s → r ≡ s
one_rule r s e = sym (rule_told r) ∙ ap rule_of e ∙ rule_told s

-- ---- where no number stands at two rows, a number tells its row

-- some row has this number
abbrev Named : ℕ → List Row → Bool
Named k rows = some (λ (r : Row). eqb (number r) k) rows

distinct_more : (row : Row) (rows : List Row) → distinct (row ∷ rows) ≡ true → (Named (number row) rows ≡ false) × (distinct rows ≡ true)
distinct_more row rows = step (Named (number row) rows)
  where
    step : (t : Bool) → cond t false (distinct rows) ≡ true → (t ≡ false) × (distinct rows ≡ true)
    step true e = absurd (true≢false (sym e))
    step false e = (refl, e)

given_named : (rows : List Row) (k : Rule) → GivenBy rows k → Named (number_of k) rows ≡ true
given_named [] k g = absurd g
given_named (row ∷ rows) k g = step (eqb (number row) (number_of k)) g (given_named rows k)
  where
    step : (t : Bool) → cond t (row.applies ≡ true) ((row.applies ≡ false) × GivenBy rows k) → (GivenBy rows k → Named (number_of k) rows ≡ true)
        → cond t true (Named (number_of k) rows) ≡ true
    step true g ih = refl
    step false g ih = ih g.1

-- what a row after it gives is not its own number
given_other : (row : Row) (rows : List Row) (k : Rule) → distinct (row ∷ rows) ≡ true → GivenBy rows k → number row ≡ number_of k → ⊥
given_other row rows k d g q =
    true≢false (sym (given_named rows k g) ∙ ap (λ (n : ℕ). Named n rows) (sym q) ∙ (distinct_more row rows d).0)

-- ---- what rows come to

module _ {A : Type 0} (refused : Refusal → A) (accepted : A) where
  -- what holds of every refusal and of what is accepted
  pub judge_either : (P : A → Type 0) → ((r : Refusal) → P (refused r)) → P accepted → (rows : List Row) → P (judge rows refused accepted)
  judge_either P f a [] = a
  judge_either P f a (row ∷ rows) = step row.applies (judge_either P f a rows)
    where
      step : (b : Bool) → P (judge rows refused accepted) → P (cond b (refused row.given) (judge rows refused accepted))
      step true ih = f row.given
      step false ih = ih

  pub judge_clear : (rows : List Row) → Clear rows → judge rows refused accepted ≡ accepted
  judge_clear [] c = refl
  judge_clear (row ∷ rows) c = rw c.0 (judge_clear rows c.1)

  -- rows that do not apply may be left out
  pub judge_skip : (rows more : List Row) → Clear rows → judge (rows ++ more) refused accepted ≡ judge more refused accepted
  judge_skip [] more c = refl
  judge_skip (row ∷ rows) more c = rw c.0 (judge_skip rows more c.1)

  pub judge_given : (rows : List Row) (k : Rule) → GivenBy rows k → judge rows refused accepted ≡ refused (record { rule = k; place = place_by rows k })
  judge_given [] k g = absurd g
  judge_given (row ∷ rows) k g = step (eqb (number row) (number_of k)) refl g (judge_given rows k)
    where
      step : (b : Bool) → eqb (number row) (number_of k) ≡ b → cond b (row.applies ≡ true) ((row.applies ≡ false) × GivenBy rows k)
          → (GivenBy rows k → judge rows refused accepted ≡ refused (record { rule = k; place = place_by rows k }))
          → judge (row ∷ rows) refused accepted ≡ refused (record { rule = k; place = cond b row.given.place (place_by rows k) })
      step true e g ih =
          rw g (ap (λ (r : Rule). refused (record { rule = r; place = row.given.place })) (one_rule row.given.rule k (eqb-true (number row) (number_of k) e)))
      step false e g ih = rw g.0 (ih g.1)

  -- where no refusal passes for what came of it, no row applies
  pub judge_clear_of : (Passes : A → Type 0) → ((r : Refusal) → Passes (refused r) → ⊥) → (rows : List Row) → Passes (judge rows refused accepted) → Clear rows
  judge_clear_of Passes fails [] h = tt
  judge_clear_of Passes fails (row ∷ rows) h = step row.applies refl h (judge_clear_of Passes fails rows)
    where
      step : (b : Bool) → row.applies ≡ b → Passes (cond b (refused row.given) (judge rows refused accepted)) → (Passes (judge rows refused accepted) → Clear rows)
          → Clear (row ∷ rows)
      step true e h ih = absurd (fails row.given h)
      step false e h ih = (e, ih h)

  -- what shows a refusal: each refusal only itself, and what is accepted none
  module _ (Shows : A → Refusal → Type 0) (only : (r s : Refusal) → Shows (refused r) s → r ≡ s) (none : (s : Refusal) → Shows accepted s → ⊥) where
    pub judge_shown : (rows : List Row) → distinct rows ≡ true → (s : Refusal) → Shows (judge rows refused accepted) s
        → GivenBy rows s.rule × (s.place ≡ place_by rows s.rule)
    judge_shown [] d s h = absurd (none s h)
    judge_shown (row ∷ rows) d s h = step row.applies refl h (judge_shown rows (distinct_more row rows d).1 s)
      where
        step : (t : Bool) → row.applies ≡ t → Shows (cond t (refused row.given) (judge rows refused accepted)) s
            → (Shows (judge rows refused accepted) s → GivenBy rows s.rule × (s.place ≡ place_by rows s.rule))
            → GivenBy (row ∷ rows) s.rule × (s.place ≡ place_by (row ∷ rows) s.rule)
        step true e h ih =
            let q : row.given ≡ s = only row.given s h in
            rw (eq-eqb (number row) (number_of s.rule) (ap (λ (r : Refusal). number_of r.rule) q)) (e, ap (λ (r : Refusal). r.place) (sym q))
        step false e h ih =
            let g : GivenBy rows s.rule × (s.place ≡ place_by rows s.rule) = ih h in
            rw (ne_eqb (number row) (number_of s.rule) (given_other row rows s.rule d g.0)) ((e, g.0), g.1)

-- two calls that judge the same rows: what relates their refusals and what they accept relates what comes of them
module _ {A B : Type 0} (R : A → B → Type 0) (f : Refusal → A) (g : Refusal → B) (a : A) (b : B) where
  pub judge_both : ((r : Refusal) → R (f r) (g r)) → R a b → (rows : List Row) → R (judge rows f a) (judge rows g b)
  judge_both p q [] = q
  judge_both p q (row ∷ rows) = step row.applies (judge_both p q rows)
    where
      step : (t : Bool) → R (judge rows f a) (judge rows g b) → R (cond t (f row.given) (judge rows f a)) (cond t (g row.given) (judge rows g b))
      step true ih = p row.given
      step false ih = ih

-- ---- a call whose answer is read off what comes of its rows

-- `away` is how an answer tells a refusal: each refusal in its own way, and what is accepted is none
module _ {A X : Type 0} (answer : A → X) (away : Refusal → X) (same : (r s : Refusal) → away r ≡ away s → r ≡ s) (refused : Refusal → A) (accepted : A)
    (gives : (r : Refusal) → answer (refused r) ≡ away r) (never : (r : Refusal) → answer accepted ≡ away r → ⊥) (rows : List Row) where
  -- it gives exactly the first row's refusal, by its number and its place
  pub answer_refused : distinct rows ≡ true → (k : Rule) (p : ℕ)
      → (answer (judge rows refused accepted) ≡ away (record { rule = k; place = p })) ↔ (GivenBy rows k × (p ≡ place_by rows k))
  answer_refused d k p = (
    judge_shown refused accepted (λ a s. answer a ≡ away s) (λ r s e. same r s (sym (gives r) ∙ e)) never rows d (record { rule = k; place = p }),
    λ g. ap answer (judge_given refused accepted rows k g.0) ∙ gives _ ∙ ap (λ (q : ℕ). away (record { rule = k; place = q })) (sym g.1),
  )

  -- it gives none exactly where no row applies
  pub answer_accepted : ((r : Refusal) → answer (judge rows refused accepted) ≡ away r → ⊥) ↔ Clear rows
  answer_accepted = (
    λ f. judge_clear_of refused accepted (λ a. (r : Refusal) → answer a ≡ away r → ⊥) (λ r g. g r (gives r)) rows f,
    λ c r e. never r (sym (ap answer (judge_clear refused accepted rows c)) ∙ e),
  )

  -- what holds of every refusal holds where the answer is one
  pub answer_kept : (Kept : A → Type 0) → ((r : Refusal) → Kept (refused r)) → (r : Refusal) → answer (judge rows refused accepted) ≡ away r
      → Kept (judge rows refused accepted)
  answer_kept Kept k r = judge_either refused accepted (λ a. answer a ≡ away r → Kept a) (λ s e. k s) (λ e. absurd (never r e)) rows

-- a verdict that accepts: no row applies
pub verdict_clear : (rows : List Row) → verdict rows ≡ Ok tt → Clear rows
verdict_clear rows e = judge_clear_of Err (Ok tt) (λ v. v ≡ Ok tt) (λ r k. other r k) rows e
  where
    other : (r : Refusal) → Err r ≡ Ok (tt {0}) → ⊥
    other r k = let z : ◌≡◌ {A = ℕ} 0 1 = cc in omega arith
