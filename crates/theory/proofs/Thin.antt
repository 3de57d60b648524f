-- Starts that are no hits may be left out: the pages are the same, and none has more looks. Assumes nothing.
use mathlib.Core.Path.{◌≡◌, refl, ap}
use mathlib.Core.Bool.{Bool, true, false, cond}
use mathlib.Core.List.Memᴰ.{head as here}
use mathlib.Core.List.Memᴰ.{tail as later}
use mathlib.Core.List.{List, [], ◌∷◌, Memᴰ as In}
use Prim.Native.Nat.{ℕ, zero, suc, ◌+◌, ◌≤◌}
use native.Mathlib.Nat.{le_refl}
use native.Mathlib.Omega.{arith}
use Rattle.theory.specs.Pages.{hits, page_hits, page_looks, rest}

module _ {A : Type 0} (hit : A → Bool) where
  -- ys is xs with some of the starts that are no hits left out
  pub data Thin : List A → List A → Type 0 where
    none : Thin [] []
    skip : {x : A} {xs ys : List A} → hit x ≡ false → Thin xs ys → Thin (x ∷ xs) ys
    kept : {x : A} {xs ys : List A} → Thin xs ys → Thin (x ∷ xs) (x ∷ ys)

  -- the same hits on every page
  pub thin_hits : (r : ℕ) {xs ys : List A} → Thin xs ys → page_hits hit r ys ≡ page_hits hit r xs
  thin_hits zero t = refl
  thin_hits (suc r) none = refl
  thin_hits (suc r) (skip e t) = rw e (thin_hits (suc r) t)
  thin_hits (suc r) (kept {x = x} {xs = xs} {ys = ys} t) = step (hit x) (thin_hits r t) (thin_hits (suc r) t)
    where
      step : (b : Bool) → page_hits hit r ys ≡ page_hits hit r xs → page_hits hit (suc r) ys ≡ page_hits hit (suc r) xs
          → cond b (x ∷ page_hits hit r ys) (page_hits hit (suc r) ys) ≡ cond b (x ∷ page_hits hit r xs) (page_hits hit (suc r) xs)
      step true p q = ap (λ (l : List A). x ∷ l) p
      step false p q = q

  pub thin_rest : (r : ℕ) {xs ys : List A} → Thin xs ys → Thin (rest hit r xs) (rest hit r ys)
  thin_rest zero t = t
  thin_rest (suc r) none = none
  thin_rest (suc r) (skip e t) = rw e (thin_rest (suc r) t)
  thin_rest (suc r) (kept {x = x} {xs = xs} {ys = ys} t) = step (hit x) (thin_rest r t) (thin_rest (suc r) t)
    where
      step : (b : Bool) → Thin (rest hit r xs) (rest hit r ys) → Thin (rest hit (suc r) xs) (rest hit (suc r) ys)
          → Thin (cond b (rest hit r xs) (rest hit (suc r) xs)) (cond b (rest hit r ys) (rest hit (suc r) ys))
      step true p q = p
      step false p q = q

module _ {A : Type 0} (hit : A → Bool) (looks : A → ℕ) where
  -- no more looks on any page
  pub thin_looks : (r : ℕ) {xs ys : List A} → Thin hit xs ys → page_looks hit looks r ys ≤ page_looks hit looks r xs
  thin_looks zero t = le_refl 0
  thin_looks (suc r) none = le_refl 0
  thin_looks (suc r) (skip {x = x} e t) = rw e (omega (arith, thin_looks (suc r) t))
  thin_looks (suc r) (kept {x = x} {xs = xs} {ys = ys} t) = step (hit x) (thin_looks r t) (thin_looks (suc r) t)
    where
      step : (b : Bool) → page_looks hit looks r ys ≤ page_looks hit looks r xs → page_looks hit looks (suc r) ys ≤ page_looks hit looks (suc r) xs
          → looks x + cond b (page_looks hit looks r ys) (page_looks hit looks (suc r) ys) ≤ looks x + cond b (page_looks hit looks r xs) (page_looks hit looks (suc r) xs)
      step true p q = omega arith
      step false p q = omega arith

-- a test that every hit of the list passes may be made first: what fails it is left out
pub thin_filter : {A : Type 0} (hit keep : A → Bool) (xs : List A) → ((x : A) → In x xs → keep x ≡ false → hit x ≡ false) → Thin hit xs (hits keep xs)
thin_filter hit keep [] f = none
thin_filter hit keep (x ∷ xs) f = step (keep x) refl (thin_filter hit keep xs (λ y m. f y (later m)))
  where
    step : (b : Bool) → keep x ≡ b → Thin hit xs (hits keep xs) → Thin hit (x ∷ xs) (cond b (x ∷ hits keep xs) (hits keep xs))
    step true e t = kept t
    step false e t = skip (f x (here refl) e) t
