-- How the sets are found: the class of a pitch is what is left of it without its octaves, a column's class set has a bit
-- for each class that is there (`class_set`), two class sets give the set of their columns (`SetOf`), and the class sets of
-- a score give its sets (`Turned`), each with the next one that is not 0 (`Carried`). Assumes nothing.
use Rattle.std.specs.Prelude.{◌≡◌, Bool, cond, List, [], ◌∷◌, map, ℕ, ◌%◌, ◌^◌, ◌<◌, leb, eqb, length, get_or, drop}
use Rattle.theory.specs.Bits.{number}
use Rattle.theory.specs.Lists.{some}
use Rattle.score.specs.Limits.{highest_pitch}
use Rattle.score.specs.Score.{pitches}
use Rattle.score.specs.Sets.{interval_set}

-- the bit of a cell's class; a rest has none
abbrev pub class_bit : (cell : ℕ) → ℕ
class_bit cell = cond (leb cell highest_pitch) (2 ^ (cell % 12)) 0

-- a table of the class bit of every byte
pub record ClassBits (bits : List ℕ) : Type 0 where
  pub at : (cell : ℕ) → cell < 256 → get_or bits cell 0 ≡ class_bit cell

-- some pitch of the column is of class k
abbrev pub has_class : (column : List ℕ) → ℕ → Bool
has_class column k = some (λ t. eqb (t.0 % 12) k) (pitches column)

-- bits 0 to 11, a 1 for each class that is there
unfoldable pub class_set : (column : List ℕ) → ℕ
class_set column = number 12 (λ k. cond (has_class column k) 1 0)

-- the set of any two columns that have these class sets
pub record SetOf (earlier later set : ℕ) : Type 0 where
  pub of_columns : (a b : List ℕ) → earlier ≡ class_set a → later ≡ class_set b → set ≡ interval_set a b

-- the class sets of a score's columns, the first column's apart
pub record ClassSets (score : List (List ℕ)) (first : ℕ) (others : List ℕ) : Type 0 where
  pub each : first ∷ others ≡ map class_set score

-- ---- columns with a pitch, by their class sets

-- the class set of an empty column
abbrev pub is_empty : (set : ℕ) → Bool
is_empty set = eqb set 0

-- the first of some class sets that is not that of an empty column; 0 where all are
abbrev pub next_class : (others : List ℕ) → ℕ
next_class [] = 0
next_class (set ∷ others) = cond (is_empty set) (next_class others) set

-- at each place of the class sets, the first from there on that is not that of an empty column
pub record Carried (others later : List ℕ) : Type 0 where
  pub each : (k : ℕ) → k < length others → get_or later k 0 ≡ next_class (drop k others)

-- the sets of class sets: each of a column's own, the first column's apart, and the later one at its place
pub record Turned (first : ℕ) (others later after : List ℕ) : Type 0 where
  pub long : length after ≡ length others
  pub each : (k : ℕ) → k < length others → SetOf (get_or (first ∷ others) k 0) (get_or later k 0) (get_or after k 0)
