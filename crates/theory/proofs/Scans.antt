-- Two loops over a list and a test: one goes through all entries and keeps whether some passes (`Flagged`), the other
-- stops at the first that passes (`Passed`). Both speak of what is left. Assumes nothing.
use mathlib.Core.Path.{◌≡◌, refl, ◌∙◌}
use mathlib.Core.Bool.{Bool, true, false, cond, ◌||◌}
use mathlib.Core.List.{List, ◌∷◌}
use Prim.Native.Nat.{ℕ, suc, ◌+◌, ◌≤◌, ◌<◌, zero-le}
use native.Mathlib.Nat.{zero-add}
use native.Mathlib.Numerals.{add-one}
use native.Mathlib.Omega.{arith}
use lib.ListN.{length, get_or, drop, drop_of_length-le}
use lib.Seq.{drop-cons}
use Rattle.theory.specs.Lists.{some, first}

module _ {A : Type 0} (test : A → Bool) (l : List A) where
  -- ---- i entries are gone through, and the flag says whether some of them passes

  pub record Flagged (i : ℕ) (flag : Bool) : Type 0 where
    pub within : i ≤ length l
    pub left : (flag || some test (drop i l)) ≡ some test l

  pub flagged_start : Flagged 0 false
  flagged_start = record { within = zero-le; left = refl }

  pub flagged_more : {i : ℕ} {flag t : Bool} (d : A) → Flagged i flag → i < length l → t ≡ test (get_or l i d) → Flagged (i + 1) (flag || t)
  flagged_more {i} {flag} {t} d f h e =
      record {
        within = omega arith;
        left = rw add-one (step flag t (some test (drop (suc i) l)) ∙ rw e (rw (drop-cons l i d h) at f.left));
      }
    where
      step : (a b c : Bool) → (a || b || c) ≡ (a || cond b true c)
      step true b c = refl
      step false true c = refl
      step false false c = refl

  pub flagged_end : {i : ℕ} {flag : Bool} → Flagged i flag → length l ≤ i → flag ≡ some test l
  flagged_end {i} {flag} f h = step flag ∙ (rw (drop_of_length-le l h) at f.left)
    where
      step : (b : Bool) → b ≡ (b || false)
      step true = refl
      step false = refl

  -- ---- none of the first i entries passes

  pub record Passed (i : ℕ) : Type 0 where
    pub within : i ≤ length l
    pub left : i + first test (drop i l) ≡ first test l

  pub passed_start : Passed 0
  passed_start = record { within = zero-le; left = zero-add (first test l) }

  pub passed_more : {i : ℕ} (d : A) → Passed i → i < length l → test (get_or l i d) ≡ false → Passed (i + 1)
  passed_more {i} d p h e =
      let k : drop i l ≡ get_or l i d ∷ drop (i + 1) l = rw add-one (drop-cons l i d h) in
      record { within = omega arith; left = omega (arith, (rw (k, e) at p.left)) }

  -- the loop stops at an entry that passes, or at the end
  pub passed_found : {i : ℕ} (d : A) → Passed i → i < length l → test (get_or l i d) ≡ true → i ≡ first test l
  passed_found {i} d p h e = omega (arith, (rw (drop-cons l i d h, e) at p.left))

  pub passed_end : {i : ℕ} → Passed i → length l ≤ i → i ≡ first test l
  passed_end {i} p h = omega (arith, (rw (drop_of_length-le l h) at p.left))
