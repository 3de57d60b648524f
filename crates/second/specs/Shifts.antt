-- The shifts of each way, and when two pitches are the same to it. Assumes nothing.
use Rattle.std.specs.Prelude.{◌≡◌, ℤ, pos, negsuc, int_rem}
use Rattle.second.specs.declared.ways.Way.{Way}
use Rattle.second.specs.declared.ways.Way.TheVariants.{Exact, Octave, Written}

-- the lowest shift of a way
abbrev pub lowest_of : Way → ℤ
lowest_of Exact = negsuc 126
lowest_of Octave = pos 0
lowest_of Written = pos 0

-- the highest one
abbrev pub highest_of : Way → ℤ
highest_of Exact = pos 127
highest_of Octave = pos 11
highest_of Written = pos 0

-- two pitches that lie z apart are the same: octaves are ignored by octave alone
abbrev pub Same : Way → (z : ℤ) → Type 0
Same Exact z = z ≡ pos 0
Same Octave z = int_rem z (pos 12) ≡ pos 0
Same Written z = z ≡ pos 0
