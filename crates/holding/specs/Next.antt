-- The next code at which a column holds a note: `next_code`, and `next_given` for every note and every code that the call may be handed.
-- Assumes nothing.
use Rattle.std.specs.Prelude.{cond, ◌||◌, List, ℕ, ◌+◌, ◌-◌, ◌%◌, leb, ltb}
use Rattle.theory.specs.Lists.{count, first, lower}
use Rattle.score.specs.declared.quantities.Pitch.{Pitch}
use Rattle.score.specs.Score.{pitch}
use Rattle.ways.specs.declared.way.Way.{Way}
use Rattle.ways.specs.declared.way.Way.TheVariants.{Exact, Octave}
use Rattle.ways.specs.Way.{span, holds}

-- the first code from x on at which the column holds p, or the span where there is none
unfoldable pub next_code : Way → Pitch → (column : List ℕ) → (x : ℕ) → ℕ
next_code way p column x = x + first (λ code. holds way code p column) (count x (span way - x))

-- the span, too, where p is no pitch or x is past the span
unfoldable pub next_given : Way → Pitch → (column : List ℕ) → (x : ℕ) → ℕ
next_given way p column x = cond (ltb 127 p.0 || ltb (span way) x) (span way) (next_code way p column x)

-- ---- for inner functions

-- the code at which the note p comes to stand on the pitch t
abbrev pub code_between : Way → (p t : Pitch) → ℕ
code_between Exact p t = t.0 + 127 - p.0
code_between Octave p t = (t.0 + 132 - p.0) % 12

-- the lower of best and the cell's code, which counts only where the cell is a pitch and its code is x or more
abbrev pub lowered : Way → Pitch → (x best cell : ℕ) → ℕ
lowered way p x best cell = cond (leb cell 127) (lower x (code_between way p (pitch cell)) best) best
