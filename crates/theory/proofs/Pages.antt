-- The hits of a page and what is left after it: a page has the first r hits, and the others are left. Assumes nothing.
use mathlib.Core.Path.{◌≡◌, refl, ap, ◌∙◌}
use mathlib.Core.Bool.{Bool, true, false, cond}
use mathlib.Core.List.{List, [], ◌∷◌, ◌++◌}
use Prim.Native.Nat.{ℕ, zero, suc, ◌≤◌, ◌<◌, zero-le}
use native.Mathlib.Nat.{not-suc-le-zero, le_of_suc-le-suc}
use native.Mathlib.Omega.{arith}
use lib.ListN.{length, take, drop, length-take, length-drop}
use lib.Seq.{take_all, length-take-le}
use borrow.Author.Tests.{leb-true, leb-false}
use Rattle.theory.specs.Pages.{hits, page_hits, rest, full}

module _ {A : Type 0} (hit : A → Bool) where
  pub page_take : (r : ℕ) (xs : List A) → page_hits hit r xs ≡ take r (hits hit xs)
  page_take zero xs = refl
  page_take (suc r) [] = refl
  page_take (suc r) (x ∷ xs) = step (hit x) (page_take r xs) (page_take (suc r) xs)
    where
      step : (b : Bool) → page_hits hit r xs ≡ take r (hits hit xs) → page_hits hit (suc r) xs ≡ take (suc r) (hits hit xs)
          → cond b (x ∷ page_hits hit r xs) (page_hits hit (suc r) xs) ≡ take (suc r) (cond b (x ∷ hits hit xs) (hits hit xs))
      step true p q = ap (λ (l : List A). x ∷ l) p
      step false p q = q

  pub rest_drop : (r : ℕ) (xs : List A) → hits hit (rest hit r xs) ≡ drop r (hits hit xs)
  rest_drop zero xs = refl
  rest_drop (suc r) [] = refl
  rest_drop (suc r) (x ∷ xs) = step (hit x) (rest_drop r xs) (rest_drop (suc r) xs)
    where
      step : (b : Bool) → hits hit (rest hit r xs) ≡ drop r (hits hit xs) → hits hit (rest hit (suc r) xs) ≡ drop (suc r) (hits hit xs)
          → hits hit (cond b (rest hit r xs) (rest hit (suc r) xs)) ≡ drop (suc r) (cond b (x ∷ hits hit xs) (hits hit xs))
      step true p q = p
      step false p q = q

  -- nothing is left of a page that is not full
  pub rest_nil : (r : ℕ) (xs : List A) → length (hits hit xs) < r → rest hit r xs ≡ []
  rest_nil zero xs h = absurd (not-suc-le-zero h)
  rest_nil (suc r) [] h = refl
  rest_nil (suc r) (x ∷ xs) h = step (hit x) (rest_nil r xs) (rest_nil (suc r) xs) h
    where
      step : (b : Bool) → (length (hits hit xs) < r → rest hit r xs ≡ []) → (length (hits hit xs) < suc r → rest hit (suc r) xs ≡ [])
          → length (cond b (x ∷ hits hit xs) (hits hit xs)) < suc r → cond b (rest hit r xs) (rest hit (suc r) xs) ≡ []
      step true p q k = p (le_of_suc-le-suc k)
      step false p q k = q k

  pub hits_le : (xs : List A) → length (hits hit xs) ≤ length xs
  hits_le [] = zero-le
  hits_le (x ∷ xs) = step (hit x) (hits_le xs)
    where
      step : (b : Bool) → length (hits hit xs) ≤ length xs → length (cond b (x ∷ hits hit xs) (hits hit xs)) ≤ suc (length xs)
      step true p = omega arith
      step false p = omega arith

  -- a page has no more than there are starts
  pub page_le : (r : ℕ) (xs : List A) → length (page_hits hit r xs) ≤ length xs
  page_le r xs = omega (arith, ap length (page_take r xs), length-take r (hits hit xs), hits_le xs)

  pub length_page : (r : ℕ) (xs : List A) → full hit r xs ≡ true → r ≤ length (hits hit xs)
  length_page r xs e = omega (arith, leb-true r (length (page_hits hit r xs)) e, ap length (page_take r xs), length-take r (hits hit xs))

  pub length_last : (r : ℕ) (xs : List A) → full hit r xs ≡ false → length (hits hit xs) < r
  length_last r xs e = omega (arith, leb-false r (length (page_hits hit r xs)) e, ap length (page_take r xs), length-take r (hits hit xs))

  pub page_full : (r : ℕ) (xs : List A) → full hit r xs ≡ true → length (page_hits hit r xs) ≡ r
  page_full r xs e = ap length (page_take r xs) ∙ length-take-le r (hits hit xs) (length_page r xs e)

  -- one that is not full has all hits
  pub page_last : (r : ℕ) (xs : List A) → full hit r xs ≡ false → page_hits hit r xs ≡ hits hit xs
  page_last r xs e = page_take r xs ∙ take_all r (hits hit xs) (omega (arith, length_last r xs e))

  -- what is left holds fewer hits
  pub rest_less : (r : ℕ) (xs : List A) → 0 < r → full hit r xs ≡ true → length (hits hit (rest hit r xs)) < length (hits hit xs)
  rest_less r xs pos f = omega (arith, ap length (rest_drop r xs), length-drop r (hits hit xs), length_page r xs f)

  -- hits of a list in two parts
  pub hits_append : (xs ys : List A) → hits hit (xs ++ ys) ≡ hits hit xs ++ hits hit ys
  hits_append [] ys = refl
  hits_append (x ∷ xs) ys = step (hit x) (hits_append xs ys)
    where
      step : (b : Bool) → hits hit (xs ++ ys) ≡ hits hit xs ++ hits hit ys
          → cond b (x ∷ hits hit (xs ++ ys)) (hits hit (xs ++ ys)) ≡ cond b (x ∷ hits hit xs) (hits hit xs) ++ hits hit ys
      step true e = ap (λ (l : List A). x ∷ l) e
      step false e = e
