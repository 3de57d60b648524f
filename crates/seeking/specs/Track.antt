-- The lowest track of a column that holds a note: `lowest_track`. A cell holds a note where a column of that cell alone does
-- (`holds` of `ways`). Assumes nothing.
use Rattle.std.specs.Prelude.{Bool, cond, List, [], ◌∷◌, ℕ, ◌+◌, ltb, length}
use Rattle.theory.specs.Lists.{first}
use Rattle.score.specs.declared.quantities.Pitch.{Pitch}
use Rattle.ways.specs.declared.way.Way.{Way}
use Rattle.ways.specs.Way.{holds}

-- the cell is the note p moved by the code's shift, in octave one of its class; a rest is not
abbrev pub cell_holds : Way → (code : ℕ) → Pitch → (cell : ℕ) → Bool
cell_holds way code p cell = holds way code p (cell ∷ [])

-- the number of the first cell that does, from 1; 0 where none does
unfoldable pub lowest_track : Way → (code : ℕ) → Pitch → (column : List ℕ) → ℕ
lowest_track way code p column =
    let k = first (cell_holds way code p) column in
    cond (ltb k (length column)) (k + 1) 0
