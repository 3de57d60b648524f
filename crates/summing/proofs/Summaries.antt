-- The summary: bit d is 0 exactly where some set has bit d at 0 (`summary_bit`), the bits from 12 on are 0, and of no sets it is
-- 4095. A set more takes its bits away (`summary_more`), and is an and where it comes last (`summary_push`). Assumes nothing.
use mathlib.Core.Path.{◌≡◌, refl, sym, ap, ◌∙◌}
use mathlib.Core.Bool.{Bool, true, false, cond}
use mathlib.Core.Logic.{◌↔◌}
use mathlib.Core.List.{List, [], ◌∷◌, ◌++◌}
use Prim.Native.Nat.{ℕ, ◌≤◌, ◌<◌, min}
use native.Mathlib.Nat.{lt_of_le_of_lt}
use native.Mathlib.Omega.{arith}
use lib.Bits.{bit_and, and_le_l}
use lib.Dec.{eqb}
use lib.ListN.{length, get_or}
use borrow.Author.Tests.{eqb-true, eqb-false, eq-eqb}
use Rattle.theory.specs.Bits.{bit, number}
use Rattle.theory.specs.Lists.{first}
use Rattle.theory.proofs.Bits.{bit_lt, bit_number, number_lt, bit_high, bit_and_lem, bit_ext, bit_ones}
use Rattle.theory.proofs.Lists.{some_first, first_there, some_at}
use Rattle.score.specs.Limits.{highest_set, table_words}
use Rattle.summing.specs.Summary.{in_some, summary}

-- the bit for a test: 0 where it is passed
abbrev absent : Bool → ℕ
absent t = cond t 0 1

absent_lt : (t : Bool) → absent t < 2
absent_lt true = omega arith
absent_lt false = omega arith

absent_zero : (t : Bool) → absent t ≡ 0 → t ≡ true
absent_zero true e = refl
absent_zero false e = absurd (omega arith)

pub summary_number : (sets : List ℕ) (d : ℕ) → d < 12 → bit (summary sets) d ≡ cond (in_some sets d) 0 1
unfolding summary
summary_number sets d h = bit_number 12 (λ q. absent (in_some sets q)) (λ q. absent_lt (in_some sets q)) d h

pub summary_lt : (sets : List ℕ) → summary sets < table_words
unfolding summary
summary_lt sets = number_lt 12 (λ q. absent (in_some sets q)) (λ q. absent_lt (in_some sets q))

pub summary_high : (sets : List ℕ) (q : ℕ) → 12 ≤ q → bit (summary sets) q ≡ 0
summary_high sets q h = bit_high (summary sets) q 12 (summary_lt sets) h

pub summary_nil : summary [] ≡ highest_set
unfolding summary number
summary_nil = refl

-- some set, by its place from 0, has bit d at 0
pub record SomeHas (sets : List ℕ) (d : ℕ) : Type 0 where
  pub place : ℕ
  pub within : place < length sets
  pub there : bit (get_or sets place 0) d ≡ 0

pub summary_bit : (sets : List ℕ) (d : ℕ) → d < 12 → (bit (summary sets) d ≡ 0) ↔ SomeHas sets d
summary_bit sets d h = (
  λ z.
      let e : in_some sets d ≡ true = absent_zero (in_some sets d) (sym (summary_number sets d h) ∙ z) in
      let w = some_first (λ set. eqb (bit set d) 0) sets e in
      record { place = first (λ set. eqb (bit set d) 0) sets; within = w; there = eqb-true _ _ (first_there (λ set. eqb (bit set d) 0) sets 0 w) },
  λ s. summary_number sets d h ∙ ap absent (some_at (λ set. eqb (bit set d) 0) sets 0 s.place s.within (eq-eqb _ _ s.there)),
)

-- a set more
pub summary_more : (set : ℕ) (sets : List ℕ) (d : ℕ) → d < 12 → bit (summary (set ∷ sets)) d ≡ min (bit set d) (bit (summary sets) d)
summary_more set sets d h =
    summary_number (set ∷ sets) d h ∙ step (eqb (bit set d) 0) refl (summary_number sets d h)
  where
    step : (t : Bool) → eqb (bit set d) 0 ≡ t → bit (summary sets) d ≡ absent (in_some sets d)
        → absent (cond t true (in_some sets d)) ≡ min (bit set d) (bit (summary sets) d)
    step true e k = let z : bit set d ≡ 0 = eqb-true _ _ e in omega (arith, z)
    step false e k =
        let z : bit set d ≡ 0 → ⊥ = eqb-false _ _ e in
        let one : bit set d ≡ 1 = omega (arith, bit_lt set d, z) in
        omega (arith, one, k, absent_lt (in_some sets d))

-- a set more at the end is an and
pub summary_push : (sets : List ℕ) (set : ℕ) → bit_and (summary sets) set ≡ summary (sets ++ (set ∷ []))
summary_push sets set =
    bit_ext 12 (bit_and (summary sets) set) (summary (sets ++ (set ∷ []))) (lt_of_le_of_lt (and_le_l (summary sets) set) (summary_lt sets))
    (summary_lt (sets ++ (set ∷ []))) (λ d h. bit_and_lem (summary sets) set d ∙ sym (bits sets d h))
  where
    bits : (sets : List ℕ) (d : ℕ) → d < 12 → bit (summary (sets ++ (set ∷ []))) d ≡ min (bit (summary sets) d) (bit set d)
    bits [] d h =
        let none : bit (summary []) d ≡ 1 = ap (λ (n : ℕ). bit n d) summary_nil ∙ bit_ones d 12 h in
        omega (arith, summary_more set [] d h, none, bit_lt set d)
    bits (one ∷ sets) d h = omega (arith, summary_more one (sets ++ (set ∷ [])) d h, summary_more one sets d h, bits sets d h)
