-- How long a list can be, and the room that telling takes: `room` and `page_pairs` are constants of the code, in `src/limits`, by the same
-- names. Assumes nothing.
use Rattle.std.specs.Prelude.{ℕ, ◌*◌, ◌-◌}
use Rattle.score.specs.Limits.{most_columns, most_tracks}
use Rattle.asking.specs.Limits.{most_notes}

-- the most pairs and the most looks that a list can have, by the limits of a score and a theme: a pair needs a second column
abbrev pub most_pairs : ℕ
most_pairs = (most_columns - 1) * most_tracks

abbrev pub most_all_looks : ℕ
most_all_looks = most_pairs * (most_notes - 1)

-- room for every text: a line of 14 bytes for each of 32,752 pairs, and one of 18
abbrev pub room : ℕ
room = 458546

-- how many pairs are searched for before they are written out
abbrev pub page_pairs : ℕ
page_pairs = 256
