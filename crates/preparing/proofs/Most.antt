-- The greatest of n numbers in a row: for a loop that or-s bits together. Assumes nothing.
use mathlib.Core.Path.{◌≡◌, refl, ap}
use mathlib.Core.Logic.{⊎_elim}
use Prim.Native.Nat.{ℕ, zero, suc, ◌+◌, ◌-◌, ◌≤◌, ◌<◌, max}
use native.Mathlib.Nat.{not-suc-le-zero, eq-or-lt_of_le}
use native.Mathlib.Numerals.{add-one, sub-one}
use native.Mathlib.Decide.{dec_lt}
use native.Mathlib.Omega.{arith}

-- the greatest of f k, f (k + 1) and so on, n of them
unfoldable pub most : (ℕ → ℕ) → ℕ → ℕ → ℕ
most f k zero = 0
most f k (suc n) = max (f k) (most f (suc k) n)

pub most_nil : (f : ℕ → ℕ) (k : ℕ) → most f k 0 ≡ 0
unfolding most
most_nil f k = refl

pub most_more : (f : ℕ → ℕ) (k n : ℕ) → 0 < n → most f k n ≡ max (f k) (most f (k + 1) (n - 1))
unfolding most
most_more f k zero h = absurd (not-suc-le-zero h)
most_more f k (suc n) h = rw (add-one, sub-one)

pub most_ge : (f : ℕ → ℕ) (k n j : ℕ) → k ≤ j → j < k + n → f j ≤ most f k n
unfolding most
most_ge f k zero j g l = absurd (omega arith)
most_ge f k (suc n) j g l =
    ⊎_elim (λ e. omega (arith, ap f e)) (λ m. omega (arith, most_ge f (suc k) n j m (omega arith))) (eq-or-lt_of_le g)

pub most_one : (f : ℕ → ℕ) (k n : ℕ) → most f k n ≡ 1 → (j : ℕ) × (j < k + n) × (f j ≡ 1)
unfolding most
most_one f k zero e = absurd (omega arith)
most_one f k (suc n) e = pick (dec_lt 0 (f k)) (most_one f (suc k) n)
  where
    pick : Dec (0 < f k) → (most f (suc k) n ≡ 1 → (j : ℕ) × (j < suc k + n) × (f j ≡ 1)) → (j : ℕ) × (j < k + suc n) × (f j ≡ 1)
    pick (yes p) r = (k, omega arith, omega arith)
    pick (no p) r = let found = r (omega arith) in (found.0, omega (arith, found.1), found.2)

pub most_lt : (f : ℕ → ℕ) (k n : ℕ) → ((j : ℕ) → f j < 2) → most f k n < 2
unfolding most
most_lt f k zero b = omega arith
most_lt f k (suc n) b = omega (arith, b k, most_lt f (suc k) n b)
