-- Decimal digits: a number below ten is one digit; one of ten or more is the number before its last digit, and that digit.
-- Assumes nothing.
use mathlib.Core.Path.{◌≡◌, refl, sym, ap, ◌∙◌}
use mathlib.Core.Bool.{Bool, true, false, cond}
use mathlib.Core.List.{List, [], ◌∷◌, ◌++◌}
use Prim.Native.Nat.{ℕ, zero, suc, ◌+◌, ◌/◌, ◌%◌, ◌^◌, ◌≤◌, ◌<◌}
use native.Mathlib.Nat.{pow-suc, mod-eq_of_lt}
use native.Mathlib.Omega.{arith}
use lib.Dec.{ltb}
use lib.ListN.{length, length-append}
use borrow.Author.Tests.{lt-ltb, le-ltb}
use Rattle.telling.specs.Text.{digits, decimal}
use Rattle.telling.specs.Steps.{Wrote}
use Rattle.telling.proofs.Puts.{wrote_length, wrote_then}

-- one more digit allowed changes nothing where they are enough
digits_enough : (more top n : ℕ) → top ≡ 10 ^ suc more → n < top → digits more n ≡ digits (suc more) n
unfolding digits
digits_enough zero top n e h = sym (rw (lt-ltb n 10 (omega (arith, e))))
digits_enough (suc more) top n e h = step (ltb n 10) (digits_enough more (10 ^ suc more) (n / 10) refl (omega (arith, e, pow-suc 10 (suc more))))
  where
    step : (t : Bool) → digits more (n / 10) ≡ digits (suc more) (n / 10)
        → cond t ((48 + n) ∷ []) (digits more (n / 10) ++ ((48 + n % 10) ∷ [])) ≡ cond t ((48 + n) ∷ []) (digits (suc more) (n / 10) ++ ((48 + n % 10) ∷ []))
    step true p = refl
    step false p = ap (λ (l : List ℕ). l ++ ((48 + n % 10) ∷ [])) p

pub decimal_small : (n : ℕ) → n < 10 → decimal n ≡ (48 + n) ∷ []
unfolding digits
decimal_small n h = rw (lt-ltb n 10 h)

pub decimal_more : (n : ℕ) → 10 ≤ n → n < 2 ^ 32 → decimal n ≡ decimal (n / 10) ++ ((48 + n % 10) ∷ [])
unfolding digits
decimal_more n l h = rw (le-ltb n 10 l) (ap (λ (ds : List ℕ). ds ++ ((48 + n % 10) ∷ [])) (digits_enough 8 1000000000 (n / 10) refl (omega arith)))

decimal_length : (n : ℕ) → 10 ≤ n → n < 2 ^ 32 → length (decimal n) ≡ length (decimal (n / 10)) + 1
decimal_length n l h = ap length (decimal_more n l h) ∙ length-append (decimal (n / 10)) ((48 + n % 10) ∷ [])

-- ---- a number put digit after digit

module _ (n at : ℕ) (out : List ℕ) where
  module _ (h : n < 10) where
    pub small_room : at + length (decimal n) ≤ length out → at < length out
    small_room l = omega (arith, ap length (decimal_small n h))

    pub small_wrote : {r : ℕ} {out' : List ℕ} → Wrote ((48 + n % 10) ∷ []) at out r out' → Wrote (decimal n) at out r out'
    small_wrote w = rw (decimal_small n h) (rw (mod-eq_of_lt h) at w)

  module _ (h : 10 ≤ n) (f : n < 2 ^ 32) where
    pub first_room : at + length (decimal n) ≤ length out → at + length (decimal (n / 10)) ≤ length out
    first_room l = omega (arith, decimal_length n h f)

    pub last_room : at + length (decimal n) ≤ length out → {m : ℕ} {out₁ : List ℕ} → Wrote (decimal (n / 10)) at out m out₁ → m < length out₁
    last_room l {m} {out₁} w = omega (arith, decimal_length n h f, w.place, wrote_length w)

    pub more_wrote : {m r : ℕ} {out₁ out' : List ℕ} → Wrote (decimal (n / 10)) at out m out₁ → Wrote ((48 + n % 10) ∷ []) m out₁ r out' → Wrote (decimal n) at out r out'
    more_wrote w v = rw (decimal_more n h f) (wrote_then w v)
