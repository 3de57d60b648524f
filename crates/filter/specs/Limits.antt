-- How many bits a word of the theme table and the register have, a constant of the code, in `src/limits`, by the same name. All
-- definitions and laws of the filter are over any width; the calls name this one. Assumes nothing.
use Rattle.std.specs.Prelude.{ℕ}

abbrev pub word_bits : ℕ
word_bits = 32
