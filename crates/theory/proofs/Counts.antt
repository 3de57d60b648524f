-- How many entries pass a test: no more than pass either of two where the test is their or, and at most one for each t
-- where the test asks for some t of a list and each t lets one entry pass at most. Assumes nothing.
use mathlib.Core.Path.{◌≡◌, refl}
use mathlib.Core.Bool.{Bool, true, false, cond}
use mathlib.Core.List.{List, [], ◌∷◌}
use Prim.Native.Nat.{ℕ, zero, suc, ◌+◌, ◌≤◌, ◌<◌, zero-le}
use native.Mathlib.Nat.{le_refl}
use native.Mathlib.Omega.{arith}
use lib.ListN.{length}
use Rattle.theory.specs.Lists.{count, some}
use Rattle.theory.specs.Pages.{hits}

module _ {A : Type 0} where
  -- none passes where the test is false
  pub hits_none : (xs : List A) → hits (λ x. false) xs ≡ []
  hits_none [] = refl
  hits_none (x ∷ xs) = hits_none xs

  pub hits_or : (a b : A → Bool) (xs : List A) → length (hits (λ x. cond (a x) true (b x)) xs) ≤ length (hits a xs) + length (hits b xs)
  hits_or a b [] = zero-le
  hits_or a b (x ∷ xs) = step (a x) (b x) (hits_or a b xs)
    where
      step : (s t : Bool) → length (hits (λ x. cond (a x) true (b x)) xs) ≤ length (hits a xs) + length (hits b xs)
          → length (cond (cond s true t) (x ∷ hits (λ x. cond (a x) true (b x)) xs) (hits (λ x. cond (a x) true (b x)) xs))
          ≤ length (cond s (x ∷ hits a xs) (hits a xs)) + length (cond t (x ∷ hits b xs) (hits b xs))
      step true true h = omega arith
      step true false h = omega arith
      step false true h = omega arith
      step false false h = omega arith

  -- each t lets one entry pass at most
  pub hits_some : {B : Type 0} (test : B → A → Bool) (ts : List B) (xs : List A) → ((t : B) → length (hits (test t) xs) ≤ 1)
      → length (hits (λ x. some (λ t. test t x) ts) xs) ≤ length ts
  hits_some test [] xs one = rw (hits_none xs) zero-le
  hits_some test (t ∷ ts) xs one = omega (arith, hits_or (test t) (λ x. some (λ t. test t x) ts) xs, one t, hits_some test ts xs one)

-- no number from a on, of n, passes
pub count_none : (test : ℕ → Bool) (a n : ℕ) → ((x : ℕ) → a ≤ x → x < a + n → test x ≡ false) → hits test (count a n) ≡ []
count_none test a zero f = refl
count_none test a (suc n) f = rw (f a (le_refl a) (omega arith)) (count_none test (suc a) n (λ x l u. f x (omega arith) (omega arith)))

-- at most one number passes, where none passes above one that does
pub count_once : (test : ℕ → Bool) (a n : ℕ) → ((x y : ℕ) → x < y → y < a + n → test x ≡ true → test y ≡ false) → length (hits test (count a n)) ≤ 1
count_once test a zero f = zero-le
count_once test a (suc n) f = step (test a) refl (count_once test (suc a) n (λ x y l u. f x y l (omega arith)))
  where
    step : (b : Bool) → test a ≡ b → length (hits test (count (suc a) n)) ≤ 1 → length (cond b (a ∷ hits test (count (suc a) n)) (hits test (count (suc a) n))) ≤ 1
    step true e ih = rw (count_none test (suc a) n (λ x l u. f a x l (omega arith) e)) (le_refl 1)
    step false e ih = ih
