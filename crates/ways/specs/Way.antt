-- The ways of matching: the shifts of each, of the two that move the theme and of written, and when a column holds a note moved by a shift. `Holds` is the published
-- definition; `holds` computes it from the shift's code, which counts from the way's lowest shift. Assumes nothing.
use Rattle.std.specs.Prelude.{◌≡◌, Bool, ℕ, ◌+◌, ◌%◌, eqb, ℤ, pos, negsuc, nat_abs, ◌+ℤ◌, ◌-ℤ◌}
use mathlib.Core.List.{List, Memᴰ as In}
use Rattle.theory.specs.Lists.{some}
use Rattle.score.specs.declared.quantities.Pitch.{Pitch}
use Rattle.score.specs.Score.{pitches}
use Rattle.score.specs.Sets.{Twelves}
use Rattle.ways.specs.declared.way.Way.{Way}
use Rattle.ways.specs.declared.way.Way.TheVariants.{Exact, Octave}
use Rattle.ways.specs.declared.way.AnyWay.{AnyWay}
use Rattle.ways.specs.declared.way.AnyWay.TheVariants.{Moved, Written}

-- ---- the published definition

-- exact: p + c is a pitch t, 0 to 127, of the column
pub record HoldsExact (column : List ℕ) (p : Pitch) (c : ℤ) : Type 0 where
  pub t : Pitch
  pub there : In t (pitches column)
  pub moved : pos p.0 +ℤ c ≡ pos t.0

-- octave: some pitch t of the column has t - p - c divisible by 12
pub record HoldsOctave (column : List ℕ) (p : Pitch) (c : ℤ) : Type 0 where
  pub t : Pitch
  pub there : In t (pitches column)
  pub moved : Twelves (pos t.0 -ℤ pos p.0 -ℤ c)

abbrev pub Holds : Way → (column : List ℕ) → Pitch → ℤ → Type 0
Holds Exact column p c = HoldsExact column p c
Holds Octave column p c = HoldsOctave column p c

-- the lowest and the highest shift: -127 (which is `negsuc 126`) to 127, or 0 to 11
abbrev pub lowest : Way → ℤ
lowest Exact = negsuc 126
lowest Octave = pos 0

abbrev pub highest : Way → ℤ
highest Exact = pos 127
highest Octave = pos 11

-- the shifts that the pairs of a search may have. A bookmark may have one more: one above the highest means `from the next
-- column on`
pub record Range : Type 0 where
  pub lowest : ℤ
  pub highest : ℤ

abbrev pub range_of : Way → Range
range_of way = record { lowest = lowest way; highest = highest way }

-- of all ways: written has the shift 0 alone
abbrev pub range_as : AnyWay → Range
range_as (Moved way) = range_of way
range_as Written = record { lowest = pos 0; highest = pos 0 }

-- ---- by codes: a shift counted from the lowest, so that all reasoning is on natural numbers

-- how many shifts there are
abbrev pub span : Way → ℕ
span Exact = 255
span Octave = 12

abbrev pub shift_of : Way → (code : ℕ) → ℤ
shift_of Exact code = pos code -ℤ pos 127
shift_of Octave code = pos code

abbrev pub code_of : Way → (shift : ℤ) → ℕ
code_of Exact shift = nat_abs (shift +ℤ pos 127)
code_of Octave shift = nat_abs shift

-- the column holds the note p moved by the code's shift
unfoldable pub holds : Way → (code : ℕ) → Pitch → (column : List ℕ) → Bool
holds Exact code p column = some (λ t. eqb (t.0 + 127) (p.0 + code)) (pitches column)
holds Octave code p column = some (λ t. eqb (t.0 % 12) ((p.0 + code) % 12)) (pitches column)
