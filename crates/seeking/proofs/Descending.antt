-- A loop from the last entry of a list to the first, which keeps the place of the last entry that passed a test: that is the first
-- of the list (`Descended`). Assumes nothing.
use mathlib.Core.Path.{◌≡◌, ap, ◌∙◌}
use mathlib.Core.Bool.{Bool, true, false}
use mathlib.Core.List.{List, ◌∷◌}
use Prim.Native.Nat.{ℕ, suc, ◌+◌, ◌-◌, ◌≤◌, ◌<◌}
use native.Mathlib.Omega.{arith}
use lib.ListN.{length, get_or, drop, drop_of_length-le}
use lib.Seq.{drop-cons}
use Rattle.theory.specs.Lists.{first}

module _ {A : Type 0} (test : A → Bool) (l : List A) where
  -- the entries from i on are gone through, and r is the place of the first of them that passes
  pub record Descended (i r : ℕ) : Type 0 where
    pub within : i ≤ length l
    pub found : r ≡ i + first test (drop i l)

  pub descended_start : {n : ℕ} → n ≡ length l → Descended n n
  descended_start {n} e = record { within = omega arith; found = rw (drop_of_length-le l {i = n} (omega arith)) (omega arith) }

  module _ {i r : ℕ} (s : Descended i r) (h : 0 < i) (d : A) where
    split : drop (i - 1) l ≡ get_or l (i - 1) d ∷ drop i l
    split =
        let e : suc (i - 1) ≡ i = omega arith in
        drop-cons l (i - 1) d (omega (arith, s.within)) ∙ ap (λ (n : ℕ). get_or l (i - 1) d ∷ drop n l) e

    pub descended_took : test (get_or l (i - 1) d) ≡ true → Descended (i - 1) (i - 1)
    descended_took t = record { within = omega (arith, s.within); found = rw (split, t) (omega arith) }

    pub descended_passed : test (get_or l (i - 1) d) ≡ false → Descended (i - 1) r
    descended_passed t = record { within = omega (arith, s.within); found = rw (split, t) (omega (arith, s.found)) }

  pub descended_end : {i r : ℕ} → Descended i r → i ≤ 0 → r ≡ first test l
  descended_end {i} {r} s h =
      let e : i ≡ 0 = omega arith in
      s.found ∙ ap (λ (n : ℕ). n + first test (drop n l)) e ∙ omega arith
