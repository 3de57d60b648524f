-- For how many notes a column is sought, a constant of the code, in `src/limits`, by the same name. Assumes nothing.
use Rattle.std.specs.Prelude.{ℕ}

abbrev pub most_sought : ℕ
most_sought = 64
