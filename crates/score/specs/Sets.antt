-- The interval sets: entry k belongs to column k and the next column with a pitch, and its bit d is 0 exactly when some pitch x
-- of the one and some pitch y of the other have (y - x) mod 12 = d. The definition that matters is `sets`; `Apart` says in
-- integers what `apart` computes. Assumes nothing.
use Rattle.std.specs.Prelude.{◌≡◌, Bool, cond, ℕ, ◌+◌, ◌-◌, ◌%◌, ◌<◌, eqb, ℤ, pos, ◌-ℤ◌, ◌*ℤ◌, get_or}
use mathlib.Core.List.{List, [], ◌∷◌, Memᴰ as In}
use Rattle.theory.specs.Bits.{number}
use Rattle.theory.specs.Lists.{some}
use Rattle.score.specs.declared.quantities.Pitch.{Pitch}
use Rattle.score.specs.declared.quantities.Interval.{Interval}
use Rattle.score.specs.Score.{pitches, heard_of}

-- a number as an interval
abbrev pub semitones : ℕ → Interval
semitones d = record { 0 = d }

-- z is divisible by 12
pub record Twelves (z : ℤ) : Type 0 where
  pub times : ℤ
  pub whole : z ≡ pos 12 *ℤ times

-- d is (y - x) mod 12, the remainder taken as 0 to 11 also for falling intervals
pub record IsInterval (x y : Pitch) (d : Interval) : Type 0 where
  pub small : d.0 < 12
  pub whole : Twelves (pos y.0 -ℤ pos x.0 -ℤ pos d.0)

-- the interval from x to y. Twenty-two octaves are added first, more than any byte, so that a falling one is not cut at zero
abbrev pub interval : Pitch → Pitch → Interval
interval x y = semitones ((y.0 + 264 - x.0) % 12)

-- some pitch of column a and some pitch of column b are d apart
pub record Apart (a b : List ℕ) (d : Interval) : Type 0 where
  pub x : Pitch
  pub y : Pitch
  pub here : In x (pitches a)
  pub next : In y (pitches b)
  pub far : IsInterval x y d

unfoldable pub apart : (a b : List ℕ) → ℕ → Bool
apart a b d = some (λ x. some (λ y. eqb (interval x y).0 d) (pitches b)) (pitches a)

-- the set of two columns: bits 0 to 11, a 0 for each interval that is there. Where one of them has no pitch it is 4095
unfoldable pub interval_set : (a b : List ℕ) → ℕ
interval_set a b = number 12 (λ d. cond (apart a b d) 0 1)

-- the first of some columns that has a pitch; a column without cells where none has one
abbrev pub next_heard : (columns : List (List ℕ)) → List ℕ
next_heard columns = get_or (heard_of columns) 0 []

-- the sets of a score: that of each column but the last, with the next column that has a pitch
abbrev pub sets : (score : List (List ℕ)) → List ℕ
sets [] = []
sets (a ∷ []) = []
sets (a ∷ b ∷ score) = interval_set a (next_heard (b ∷ score)) ∷ sets (b ∷ score)
