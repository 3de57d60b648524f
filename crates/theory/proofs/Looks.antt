-- The looks of a page: with the looks of what is left they are those of the whole list, a bound on each look bounds
-- them all, and a part of the list takes no more than the whole. Assumes nothing.
use mathlib.Core.Path.{◌≡◌, refl, sym, ◌∙◌}
use mathlib.Core.Bool.{Bool, true, false, cond}
use mathlib.Core.List.{List, [], ◌∷◌, ◌++◌, map}
use Prim.Native.Nat.{ℕ, zero, suc, ◌+◌, ◌*◌, ◌≤◌, zero-le}
use native.Mathlib.Nat.{zero-add, suc-mul}
use native.Mathlib.Omega.{arith}
use lib.Dec.{ltb}
use lib.ListN.{length}
use Rattle.theory.specs.Lists.{sum}
use Rattle.theory.specs.Pages.{hits, page_looks, rest, from}

module _ {A : Type 0} (hit : A → Bool) (looks : A → ℕ) where
  -- a page and what is left after it take the looks of the whole
  pub looks_split : (r : ℕ) (xs : List A) → page_looks hit looks r xs + sum (map looks (rest hit r xs)) ≡ sum (map looks xs)
  looks_split zero xs = zero-add _
  looks_split (suc r) [] = refl
  looks_split (suc r) (x ∷ xs) = step (hit x) (looks_split r xs) (looks_split (suc r) xs)
    where
      step : (b : Bool) → page_looks hit looks r xs + sum (map looks (rest hit r xs)) ≡ sum (map looks xs)
          → page_looks hit looks (suc r) xs + sum (map looks (rest hit (suc r) xs)) ≡ sum (map looks xs)
          → looks x + cond b (page_looks hit looks r xs) (page_looks hit looks (suc r) xs) + sum (map looks (cond b (rest hit r xs) (rest hit (suc r) xs)))
          ≡ looks x + sum (map looks xs)
      step true p q = omega arith
      step false p q = omega arith

-- looks of at most b each
pub sum_le : {A : Type 0} (looks : A → ℕ) (b : ℕ) → ((x : A) → looks x ≤ b) → (xs : List A) → sum (map looks xs) ≤ length xs * b
sum_le looks b f [] = zero-le
sum_le looks b f (x ∷ xs) = omega (arith, f x, sum_le looks b f xs, suc-mul (length xs) b)

pub sum_append : {A : Type 0} (looks : A → ℕ) (xs ys : List A) → sum (map looks (xs ++ ys)) ≡ sum (map looks xs) + sum (map looks ys)
sum_append looks [] ys = sym (zero-add _)
sum_append looks (x ∷ xs) ys = omega (arith, sum_append looks xs ys)

-- ---- a page, what stands after a bookmark and what passes a test take no more than the whole

pub page_looks_le : {A : Type 0} (hit : A → Bool) (looks : A → ℕ) (r : ℕ) (xs : List A) → page_looks hit looks r xs ≤ sum (map looks xs)
page_looks_le hit looks r xs = omega (arith, looks_split hit looks r xs)

pub sum_hits : {A : Type 0} (looks : A → ℕ) (keep : A → Bool) (xs : List A) → sum (map looks (hits keep xs)) ≤ sum (map looks xs)
sum_hits looks keep [] = zero-le
sum_hits looks keep (x ∷ xs) = step (keep x) (sum_hits looks keep xs)
  where
    step : (b : Bool) → sum (map looks (hits keep xs)) ≤ sum (map looks xs)
        → sum (map looks (cond b (x ∷ hits keep xs) (hits keep xs))) ≤ looks x + sum (map looks xs)
    step true h = omega arith
    step false h = omega arith

pub sum_from : {A : Type 0} (looks : A → ℕ) (key : A → ℕ) (b : ℕ) (xs : List A) → sum (map looks (from key b xs)) ≤ sum (map looks xs)
sum_from looks key b [] = zero-le
sum_from looks key b (x ∷ xs) = step (ltb (key x) b) (sum_from looks key b xs)
  where
    step : (t : Bool) → sum (map looks (from key b xs)) ≤ sum (map looks xs) → sum (map looks (cond t (from key b xs) (x ∷ xs))) ≤ looks x + sum (map looks xs)
    step true h = omega arith
    step false h = omega arith

-- a look for each, and more for those that pass a test
pub sum_part : {A : Type 0} (test : A → Bool) (more : A → ℕ) (xs : List A) → sum (map (λ x. suc (cond (test x) (more x) 0)) xs) ≡ length xs + sum (map more (hits test xs))
sum_part test more [] = refl
sum_part test more (x ∷ xs) = step (test x) (sum_part test more xs)
  where
    step : (b : Bool) → sum (map (λ x. suc (cond (test x) (more x) 0)) xs) ≡ length xs + sum (map more (hits test xs))
        → suc (cond b (more x) 0) + sum (map (λ x. suc (cond (test x) (more x) 0)) xs) ≡ suc (length xs) + sum (map more (cond b (x ∷ hits test xs) (hits test xs)))
    step true ih = omega (arith, ih)
    step false ih = omega (arith, ih)

pub sum_none : {A : Type 0} (xs : List A) → sum (map (λ x. 0) xs) ≡ 0
sum_none [] = refl
sum_none (x ∷ xs) = zero-add _ ∙ sum_none xs
