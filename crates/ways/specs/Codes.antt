-- Which shifts a way has (`no_shift`) and a bookmark may have (`out_of_range`, `out_as`); and codes of every shift and shifts of
-- every code that 16 bits hold, what `code_of` and `shift_of` give. For what a bookmark may have they are `code_of` and `shift_of`
-- of `Way`. Assumes nothing.
use Rattle.std.specs.Prelude.{Bool, cond, ◌||◌, ℕ, leb, ℤ, pos, ◌+ℤ◌}
use Rattle.std.specs.Int.Signed.{lt_z}
use Rattle.ways.specs.declared.way.Way.{Way}
use Rattle.ways.specs.declared.way.AnyWay.{AnyWay}
use Rattle.ways.specs.Way.{lowest, highest, code_of, shift_of, range_as}

abbrev pub outside : (shift low high : ℤ) → Bool
outside shift low high = lt_z shift low || lt_z high shift

-- the shift is none of the way's
abbrev pub no_shift : Way → (shift : ℤ) → Bool
no_shift way shift = outside shift (lowest way) (highest way)

-- no bookmark may have the shift: it is below the way's lowest, or more than one above its highest
abbrev pub out_of_range : Way → (shift : ℤ) → Bool
out_of_range way shift = outside shift (lowest way) (highest way +ℤ pos 1)

-- the same of all ways
abbrev pub out_as : AnyWay → (shift : ℤ) → Bool
out_as way shift = outside shift (range_as way).lowest ((range_as way).highest +ℤ pos 1)

-- the shift's code, and 0 where no bookmark may have the shift
abbrev pub code_given : Way → (shift : ℤ) → ℕ
code_given way shift = cond (out_of_range way shift) 0 (code_of way shift)

-- the code's shift, and the lowest where the code is above 255
abbrev pub shift_given : Way → (code : ℕ) → ℤ
shift_given way code = cond (leb code 255) (shift_of way code) (lowest way)
