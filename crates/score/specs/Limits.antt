-- The limits of a score, and the numbers that its cells and its sets are made of. Each is a constant of the code, in
-- `src/limits`, by the same name. Assumes nothing.
use Rattle.std.specs.Prelude.{ℕ, ◌*◌}

-- the most tracks, columns and cells of a score
abbrev pub most_tracks : ℕ
most_tracks = 16

abbrev pub most_columns : ℕ
most_columns = 2048

abbrev pub most_cells : ℕ
most_cells = most_columns * most_tracks

-- the highest pitch, and the cell that is a rest
abbrev pub highest_pitch : ℕ
highest_pitch = 127

abbrev pub rest_cell : ℕ
rest_cell = 255

-- the highest interval set: all twelve bits
abbrev pub highest_set : ℕ
highest_set = 4095

-- how many interval sets there are, and so how many words a theme table has: one for each
abbrev pub table_words : ℕ
table_words = 4096
