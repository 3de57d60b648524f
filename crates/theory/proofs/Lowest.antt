-- The least number of a list from x on is the first of the numbers from x on that is in the list; and what a test passes
-- among the numbers from x on begins with the first that it passes. Assumes nothing.
use mathlib.Core.Path.{◌≡◌, refl, sym, ◌∙◌}
use mathlib.Core.Bool.{Bool, true, false, cond, true≢false}
use mathlib.Core.List.{List, [], ◌∷◌}
use Prim.Native.Nat.{ℕ, zero, suc, ◌+◌, ◌-◌, ◌≤◌, ◌<◌}
use native.Mathlib.Nat.{add-zero, not-suc-le-zero}
use native.Mathlib.Numerals.{add-one}
use native.Mathlib.Omega.{arith}
use lib.Dec.{leb, ltb, eqb}
use borrow.Author.Tests.{le-leb, lt-leb, lt-ltb, le-ltb, leb-true, leb-false, eqb-true, eqb-false}
use Rattle.theory.specs.Lists.{count, some, first, lower, lowest}
use Rattle.theory.specs.Pages.{hits}

-- ---- one number

pub lower_took : (x d b : ℕ) → x ≤ d → d < b → lower x d b ≡ d
lower_took x d b p q = rw (le-leb x d p, lt-ltb d b q)

pub lower_high : (x d b : ℕ) → b ≤ d → lower x d b ≡ b
lower_high x d b q = go (leb x d)
  where
    go : (t : Bool) → cond t (cond (ltb d b) d b) b ≡ b
    go true = rw (le-ltb d b q)
    go false = refl

pub lower_low : (x d b : ℕ) → d < x → lower x d b ≡ b
lower_low x d b q = rw (lt-leb x d q)

lower_above : (x d b : ℕ) → x < b → (d ≡ x → ⊥) → x < lower x d b
lower_above x d b h n = step (leb x d) refl (ltb d b)
  where
    step : (t : Bool) → leb x d ≡ t → (u : Bool) → x < cond t (cond u d b) b
    step true e true = omega (arith, leb-true x d e, n)
    step true e false = h
    step false e u = h

lower_next : (x d b : ℕ) → (d ≡ x → ⊥) → lower x d b ≡ lower (suc x) d b
lower_next x d b n = step (leb x d) refl
  where
    step : (t : Bool) → leb x d ≡ t → cond t (cond (ltb d b) d b) b ≡ lower (suc x) d b
    step true e = rw (le-leb (suc x) d (omega (arith, leb-true x d e, n)))
    step false e = rw (lt-leb (suc x) d (omega (arith, leb-false x d e)))

-- ---- a list

-- nothing from x on is below b
lowest_none : (x b : ℕ) (ds : List ℕ) → b ≤ x → lowest x b ds ≡ b
lowest_none x b [] h = refl
lowest_none x b (d ∷ ds) h = rw same (lowest_none x b ds h)
  where
    same : lower x d b ≡ b
    same = step (leb x d) refl
      where
        step : (t : Bool) → leb x d ≡ t → cond t (cond (ltb d b) d b) b ≡ b
        step true e = rw (le-ltb d b (omega (arith, leb-true x d e)))
        step false e = refl

lowest_in : (x b : ℕ) (ds : List ℕ) → x < b → some (λ d. eqb d x) ds ≡ true → lowest x b ds ≡ x
lowest_in x b [] h m = absurd (true≢false (sym m))
lowest_in x b (d ∷ ds) h m = step (eqb d x) refl m (λ e. lowest_in x e ds)
  where
    step : (t : Bool) → eqb d x ≡ t → cond t true (some (λ k. eqb k x) ds) ≡ true
        → ((e : ℕ) → x < e → some (λ k. eqb k x) ds ≡ true → lowest x e ds ≡ x) → lowest x (lower x d b) ds ≡ x
    step true e k ih =
        let q : d ≡ x = eqb-true d x e in
        rw (lower_took x d b (omega arith) (omega arith)) (lowest_none x d ds (omega arith) ∙ q)
    step false e k ih = ih (lower x d b) (lower_above x d b h (eqb-false d x e)) k

lowest_out : (x b : ℕ) (ds : List ℕ) → some (λ d. eqb d x) ds ≡ false → lowest x b ds ≡ lowest (suc x) b ds
lowest_out x b [] m = refl
lowest_out x b (d ∷ ds) m = step (eqb d x) refl m (λ e. lowest_out x e ds)
  where
    step : (t : Bool) → eqb d x ≡ t → cond t true (some (λ k. eqb k x) ds) ≡ false
        → ((e : ℕ) → some (λ k. eqb k x) ds ≡ false → lowest x e ds ≡ lowest (suc x) e ds) → lowest x (lower x d b) ds ≡ lowest (suc x) (lower (suc x) d b) ds
    step true e k ih = absurd (true≢false k)
    step false e k ih = rw (lower_next x d b (eqb-false d x e)) (ih (lower (suc x) d b) k)

-- the least from x on, below x + n, is the first of the n numbers from x on that is in the list
pub lowest_first : (x n : ℕ) (ds : List ℕ) → lowest x (x + n) ds ≡ x + first (λ k. some (λ d. eqb d k) ds) (count x n)
lowest_first x zero ds = lowest_none x (x + 0) ds (omega arith)
lowest_first x (suc n) ds = step (some (λ d. eqb d x) ds) refl (lowest_first (suc x) n ds)
  where
    step : (t : Bool) → some (λ d. eqb d x) ds ≡ t
        → lowest (suc x) (suc x + n) ds ≡ suc x + first (λ k. some (λ d. eqb d k) ds) (count (suc x) n)
        → lowest x (x + suc n) ds ≡ x + cond t 0 (suc (first (λ k. some (λ d. eqb d k) ds) (count (suc x) n)))
    step true e ih = lowest_in x (x + suc n) ds (omega arith) e ∙ sym (add-zero x)
    step false e ih =
        let s : x + suc n ≡ suc x + n = omega arith in
        lowest_out x (x + suc n) ds e ∙ rw s (ih ∙ omega arith)

-- ---- the numbers from x on that pass a test

-- two tests that agree there pass the same number first
pub first_agree : (f g : ℕ → Bool) (x n : ℕ) → ((k : ℕ) → x ≤ k → k < x + n → f k ≡ g k) → first f (count x n) ≡ first g (count x n)
first_agree f g x zero h = refl
first_agree f g x (suc n) h =
    rw (h x (omega arith) (omega arith), first_agree f g (suc x) n (λ k p q. h k (omega arith) (omega arith)))

pub hits_first : (f : ℕ → Bool) (x n : ℕ) → first f (count x n) < n
    → hits f (count x n) ≡ (x + first f (count x n)) ∷ hits f (count (x + first f (count x n) + 1) (n - (first f (count x n) + 1)))
hits_first f x zero h = absurd (not-suc-le-zero h)
hits_first f x (suc n) h = step (f x) h (hits_first f (suc x) n)
  where
    step : (t : Bool) → cond t 0 (suc (first f (count (suc x) n))) < suc n
        → (first f (count (suc x) n) < n
        → hits f (count (suc x) n) ≡ (suc x + first f (count (suc x) n))
        ∷ hits f (count (suc x + first f (count (suc x) n) + 1) (n - (first f (count (suc x) n) + 1))))
        → cond t (x ∷ hits f (count (suc x) n)) (hits f (count (suc x) n))
        ≡ (x + cond t 0 (suc (first f (count (suc x) n))))
        ∷ hits f (count (x + cond t 0 (suc (first f (count (suc x) n))) + 1) (suc n - (cond t 0 (suc (first f (count (suc x) n))) + 1)))
    step true k ih =
        let a : x + 0 ≡ x = omega arith in
        let b : suc n - (0 + 1) ≡ n = omega arith in
        rw (a, b, add-one)
    step false k ih =
        let a : x + suc (first f (count (suc x) n)) ≡ suc x + first f (count (suc x) n) = omega arith in
        let b : suc n - (suc (first f (count (suc x) n)) + 1) ≡ n - (first f (count (suc x) n) + 1) = omega arith in
        rw (a, b) (ih (omega arith))

pub hits_none : (f : ℕ → Bool) (x n : ℕ) → n ≤ first f (count x n) → hits f (count x n) ≡ []
hits_none f x zero h = refl
hits_none f x (suc n) h = step (f x) h (hits_none f (suc x) n)
  where
    step : (t : Bool) → suc n ≤ cond t 0 (suc (first f (count (suc x) n))) → (n ≤ first f (count (suc x) n) → hits f (count (suc x) n) ≡ [])
        → cond t (x ∷ hits f (count (suc x) n)) (hits f (count (suc x) n)) ≡ []
    step true k ih = absurd (not-suc-le-zero k)
    step false k ih = ih (omega arith)
