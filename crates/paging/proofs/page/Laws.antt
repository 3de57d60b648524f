-- Buffers that a page has filled: they have a last place, and no more pairs fit. Assumes nothing.
use mathlib.Core.Path.{◌≡◌, refl, sym, ◌∙◌}
use mathlib.Core.Bool.{Bool, true, false, ◌||◌, true≢false}
use Prim.Native.Nat.{ℕ, zero, suc, ◌≤◌}
use native.Mathlib.Omega.{arith}
use lib.Dec.{ltb, eqb}
use borrow.Author.Tests.{ltb-false, eqb-false}
use Rattle.paging.specs.Turning.{unfilled}

pub record Filled (found columns shifts : ℕ) : Type 0 where
  pub some : 1 ≤ columns
  pub all : columns ≤ found
  pub both : columns ≤ shifts

pub no_room_filled : (found columns shifts : ℕ) → (ltb found columns || eqb columns 0 || ltb shifts columns) ≡ false → Filled found columns shifts
no_room_filled found columns shifts = step (ltb found columns) (eqb columns 0) (ltb shifts columns) refl refl refl
  where
    step : (a b c : Bool) → ltb found columns ≡ a → eqb columns 0 ≡ b → ltb shifts columns ≡ c → (a || b || c) ≡ false → Filled found columns shifts
    step true b c p q r e = absurd (true≢false e)
    step false true c p q r e = absurd (true≢false e)
    step false false true p q r e = absurd (true≢false e)
    step false false false p q r e = record { some = some; all = ltb-false found columns p; both = ltb-false shifts columns r }
      where
        some : 1 ≤ columns
        some = go columns (eqb-false columns 0 q)
          where
            go : (n : ℕ) → (n ≡ 0 → ⊥) → 1 ≤ n
            go zero f = absurd (f refl)
            go (suc n) f = omega arith

-- the same of the answer to whether there is room
pub full : {found columns shifts : ℕ} {room : Bool} → room ≡ unfilled found columns shifts → room ≡ false → Filled found columns shifts
unfolding unfilled
full {found} {columns} {shifts} e none = no_room_filled found columns shifts (sym e ∙ none)
