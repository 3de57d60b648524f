-- A pitch of a column is one of its cells that is 127 or less. Assumes nothing.
use mathlib.Core.Path.{◌≡◌, refl, ap}
use mathlib.Core.Bool.{Bool, true, false, cond}
use mathlib.Core.List.Memᴰ.{head as at_head}
use mathlib.Core.List.Memᴰ.{tail as in_Tail}
use mathlib.Core.List.{List, [], ◌∷◌, Memᴰ as In}
use Prim.Native.Nat.{ℕ, ◌≤◌}
use native.Mathlib.Omega.{arith}
use lib.Dec.{leb}
use borrow.Author.Tests.{leb-true}
use Rattle.score.specs.Limits.{highest_pitch}
use Rattle.score.specs.declared.quantities.Pitch.{Pitch}
use Rattle.score.specs.Score.{pitch, pitches}

pub pitch_le : (column : List ℕ) {t : Pitch} → In t (pitches column) → t.0 ≤ highest_pitch
pitch_le [] m = elim m [ ]
pitch_le (cell ∷ cells) m = step (leb cell highest_pitch) refl m (λ k. pitch_le cells k)
  where
    step : {t : Pitch} → (b : Bool) → leb cell highest_pitch ≡ b → In t (cond b (pitch cell ∷ pitches cells) (pitches cells))
        → (In t (pitches cells) → t.0 ≤ highest_pitch) → t.0 ≤ highest_pitch
    step true e (at_head p) ih = omega (arith, leb-true cell highest_pitch e, ap (λ (x : Pitch). x.0) p)
    step true e (in_Tail k) ih = ih k
    step false e k ih = ih k
