-- The whole output for every input: `output`. Assumes nothing.
use Rattle.std.specs.Prelude.{List, ℕ}
use Rattle.telling.specs.Lines.{lines_of, refused_line}
use Rattle.reading.specs.Request.{Meaning, right, faulty, meaning}

abbrev pub answer : Meaning → List ℕ
answer (right q) = lines_of q.theme.way q.columns q.theme.notes
answer (faulty n) = refused_line n

unfoldable pub output : List ℕ → List ℕ
output input = answer (meaning input)
