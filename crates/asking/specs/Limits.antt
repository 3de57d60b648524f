-- The limits of a theme, each a constant of the code, in `src/limits`, by the same name. Assumes nothing.
use Rattle.std.specs.Prelude.{ℕ}

-- the most notes of a theme
abbrev pub most_notes : ℕ
most_notes = 32
