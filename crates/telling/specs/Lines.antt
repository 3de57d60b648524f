-- The lines of a whole search: one for each pair, and the line behind them (`lines_of`); and the line of a refused input.
-- Assumes nothing.
use Rattle.std.specs.Prelude.{List, ◌++◌, map, ℕ, ℤ, length}
use Rattle.theory.specs.Lists.{join}
use Rattle.score.specs.Score.{column_at}
use Rattle.score.specs.Sets.{sets}
use Rattle.ways.specs.declared.way.AnyWay.{AnyWay}
use Rattle.ways.specs.declared.way.AnyWay.TheVariants.{Moved, Written}
use Rattle.ways.specs.declared.bookmark.Pair.{Pair}
use Rattle.search.specs.Pairs.{pairs_as}
use Rattle.search.specs.WholeList.{candidate_looks}
use Rattle.telling.specs.Text.{hit_word, end_word, refused_word, decimal, signed, line}

abbrev pub pair_of : (column : ℕ) (shift : ℤ) → Pair
pair_of column shift = record { column = column_at column; shift = shift }

-- `hit`, the column and the shift
unfoldable pub hit_line : Pair → List ℕ
hit_line pair = line hit_word (decimal pair.column.0) (signed pair.shift)

-- `end`, the number of pairs and the looks
unfoldable pub end_line : (found looks : ℕ) → List ℕ
end_line found looks = line end_word (decimal found) (decimal looks)

-- `refused`, 11 and the line
unfoldable pub refused_line : (n : ℕ) → List ℕ
refused_line n = line refused_word (decimal 11) (decimal n)

abbrev pub hit_lines : List Pair → List ℕ
hit_lines list = join (map hit_line list)

-- the looks of all pages: the quick way, with the score's own sets; as the tune is written, none
abbrev pub told_looks : AnyWay → (score : List (List ℕ)) (theme : List ℕ) → ℕ
told_looks (Moved way) score theme = candidate_looks way score theme (sets score)
told_looks Written score theme = 0

-- a line for each pair, and the line behind them
unfoldable pub lines_of : AnyWay → (score : List (List ℕ)) (theme : List ℕ) → List ℕ
lines_of way score theme = hit_lines (pairs_as way score theme) ++ end_line (length (pairs_as way score theme)) (told_looks way score theme)
