-- A column asked cell by cell for a pitch that passes a test: some cell is a pitch that does exactly where some pitch of the
-- column does (`some_cell`). Assumes nothing.
use mathlib.Core.Path.{◌≡◌, refl}
use mathlib.Core.Bool.{Bool, true, false, cond, ◌||◌, ◌&&◌}
use mathlib.Core.List.{List, [], ◌∷◌}
use Prim.Native.Nat.{ℕ, ◌≤◌}
use native.Mathlib.Omega.{arith}
use lib.Dec.{leb, eqb}
use borrow.Author.Tests.{leb-false, ne_eqb}
use Rattle.std.specs.List.{list_any}
use Rattle.theory.specs.Lists.{some}
use Rattle.score.specs.declared.quantities.Pitch.{Pitch}
use Rattle.score.specs.Score.{pitch, pitches}

module _ (passes : ℕ → Bool) (test : Pitch → Bool) (same : (cell : ℕ) → passes cell ≡ (leb cell 127 && test (pitch cell))) where
  pub some_cell : (column : List ℕ) → list_any passes column ≡ some test (pitches column)
  some_cell [] = refl
  some_cell (cell ∷ cells) = rw same (step (leb cell 127) (test (pitch cell)) refl (some_cell cells))
    where
      step : (low t : Bool) → test (pitch cell) ≡ t → list_any passes cells ≡ some test (pitches cells)
          → ((low && t) || list_any passes cells) ≡ some test (cond low (pitch cell ∷ pitches cells) (pitches cells))
      step true true q e = rw q
      step true false q e = rw q e
      step false t q e = e

-- a pitch is sought: a cell that is the same is one too
pub same_cell : (p : ℕ) → p ≤ 127 → (cell : ℕ) → eqb cell p ≡ (leb cell 127 && eqb cell p)
same_cell p h cell = pick (leb cell 127) refl
  where
    pick : (b : Bool) → leb cell 127 ≡ b → eqb cell p ≡ (b && eqb cell p)
    pick true e = refl
    pick false e = let l = leb-false cell 127 e in ne_eqb cell p (λ o. omega (arith, l, o))
