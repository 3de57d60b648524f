-- Chains over a list: a `fold` says of the whole list what its step says of one entry more (`folded`). With a test there are a `fold`
-- that goes through all entries and keeps whether some passes, and a `position` and an `all` that stop at the first entry that
-- settles them: each answers what its word says. Assumes nothing.
use mathlib.Core.Path.{◌≡◌, refl, sym, ap, ◌∙◌}
use mathlib.Core.Bool.{Bool, true, false, cond, not, ◌||◌}
use mathlib.Core.List.{List, [], ◌∷◌, ◌++◌}
use Prim.Native.Nat.{ℕ, ◌<◌, zero-le}
use native.Mathlib.Numerals.{add-one}
use lib.ListN.{length}
use denote.Param.Members.{Mut}
use Rattle.std.specs.declared.option.Option.{Option}
use Rattle.std.specs.declared.option.Option.TheVariants.{None, Some}
use Rattle.std.specs.Fn.{Called}
use Rattle.std.specs.Iterator.{Drains, YieldsThen}
use Rattle.std.specs.Bool.{MatchBool}
use Rattle.std.specs.List.{FoldsTo, AllWithin, HoldsAt}
use Rattle.std.specs.Option.{MatchOption, unwrap_or}
use Rattle.std.proofs.lemmas.Fn.{fold_over}
use Rattle.std.proofs.lemmas.Iterator.{YieldsList, IsFirst-from_position, index_from_first, cases_from_all}
use Rattle.theory.specs.Lists.{some, first}
use Rattle.theory.proofs.Lists.{some_at, none_some}

-- a `fold` whose step adds an entry to what is said of those before it: its result is what is said of them all
pub folded : {S A F B C : Type 0} {steps : S → Option A → S → Type 0} {v : A → B} {s : S} {all : List B} (says : List B → C) (more : C → B → C)
    (g : Mut F (C × (A × Unit {0})) C) (f : F) {start r : C}
    → (xs : List A) × (h : F) × Drains steps s xs × FoldsTo {P = F × C} (λ p x q. Called g p.0 (p.1, (x, tt)) q.1 q.0) (f, start) xs (h, r)
    → YieldsList steps v s all
    → start ≡ says []
    → ((ys : List B) (y : B) → more (says ys) y ≡ says (ys ++ (y ∷ [])))
    → ((a : C) (x : A) (b : C) (h : F) → Called g f (a, (x, tt)) b h → (h ≡ f) × (b ≡ more a (v x)))
    → r ≡ says all
folded {steps = steps} {v = v} {s = s} {all} says more g f {start} {r} ran chain first_said one calls =
    fold_over steps v g (λ ys a. a ≡ says ys) f
    (λ ys a x b h j k. let w = calls a x b h k in (w.1 ∙ ap (λ (c : _). more c (v x)) j ∙ one ys (v x), w.0))
    s all start r chain.runs first_said ran

module _ {B : Type 0} (test : B → Bool) where
  -- one entry more at the end
  pub some_push : (ys : List B) (y : B) → some test (ys ++ (y ∷ [])) ≡ (some test ys || test y)
  some_push [] y = step (test y)
    where
      step : (t : Bool) → cond t true false ≡ t
      step true = refl
      step false = refl
  some_push (x ∷ ys) y = rw (some_push ys y) (step (test x) (some test ys) (test y))
    where
      step : (t a b : Bool) → cond t true (a || b) ≡ (cond t true a || b)
      step true a b = refl
      step false a b = refl

  module _ {S A F : Type 0} {steps : S → Option A → S → Type 0} {v : A → B} {s : S} {all : List B} where
    -- `fold(false, |flag, x| flag | test(x))`
    pub some_from_fold : (g : Mut F (Bool × (A × Unit {0})) Bool) (f : F) {r : Bool}
        → (xs : List A) × (h : F) × Drains steps s xs × FoldsTo {P = F × Bool} (λ p x q. Called g p.0 (p.1, (x, tt)) q.1 q.0) (f, false) xs (h, r)
        → YieldsList steps v s all
        → ((a : Bool) (x : A) (b : Bool) (h : F) → Called g f (a, (x, tt)) b h → (h ≡ f) × (b ≡ (a || test (v x))))
        → r ≡ some test all
    some_from_fold g f ran chain calls = folded (some test) (λ a x. a || test x) g f ran chain refl (λ ys y. sym (some_push ys y)) calls

    -- `position(test)`, and the list's length where none passes
    pub first_from_position : (g : Mut F (A × Unit {0}) Bool) (u : S) (f : F) {r : Option ℕ}
        → (xs : List A) × (o : Option A) × (j : F) × YieldsThen steps s xs o u × FoldsTo (λ p x q. Called g p (x, tt) false q) f xs j
        × MatchOption o (r ≡ None) (λ x. (r ≡ Some (length xs)) × ((h : F) × Called g j (x, tt) true h))
        → YieldsList steps v s all
        → ((x : A) (b : Bool) (h : F) → Called g f (x, tt) b h → (h ≡ f) × (b ≡ test (v x)))
        → unwrap_or r (length all) ≡ first test all
    first_from_position g u f {r} ran chain calls =
        sym
        (index_from_first (first test) (λ x. test x ≡ true) (λ x. test x ≡ false) refl (λ x xs e. rw e) (λ x xs e. rw e (sym (add-one (first test xs)))) all r
        (IsFirst-from_position u f r (λ x. test x ≡ true) (λ x. test x ≡ false) ran chain (λ x h k. sym (calls x true h k).1) (λ x h k. let w = calls x false h k in (w.0, sym w.1))))

    -- `all`, of a test that says the opposite
    pub none_from_all : (g : Mut F (A × Unit {0}) Bool) (u : S) (f : F) {r : Bool}
        → (xs : List A) × (o : Option A) × (j : F) × YieldsThen steps s xs o u × FoldsTo (λ p x q. Called g p (x, tt) true q) f xs j
        × MatchOption o (r ≡ true) (λ x. (r ≡ false) × ((h : F) × Called g j (x, tt) false h))
        → YieldsList steps v s all
        → B
        → ((x : A) (b : Bool) (h : F) → Called g f (x, tt) b h → (h ≡ f) × (not b ≡ test (v x)))
        → r ≡ not (some test all)
    none_from_all g u f {r} ran chain d calls =
        settle r (cases_from_all u f r (λ x. test x ≡ false) (λ x. test x ≡ true) ran chain
        (λ x h k. let w = calls x true h k in (w.0, sym w.1)) (λ x h k. sym (calls x false h k).1))
      where
        settle : (t : Bool) → MatchBool t (AllWithin (λ x. test x ≡ false) all 0 (length all)) ((k : ℕ) × (k < length all) × HoldsAt (λ x. test x ≡ true) all k)
            → t ≡ not (some test all)
        settle true each = sym (ap not (none_some test all d (λ i h. each i d zero-le h)))
        settle false (k, l, at) = sym (ap not (some_at test all d k l (at d)))
