-- The room for an input, a constant of the code, in `src/limits`, by the same name. Assumes nothing.
use Rattle.std.specs.Prelude.{ℕ}

-- one byte more than any right input has: what lies behind it changes nothing of the output (`output_behind`)
abbrev pub input_room : ℕ
input_room = 143503
