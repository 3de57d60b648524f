-- `telling::writing::Out::hit_lines` meets its contract. The invariant: the lines so far are put into the same output, and those
-- of the pairs left are to come.
use mathlib.Core.Path.{◌≡◌}
use Rattle.std.specs.Iterator.Adapters.{zip_first, zip_second}
use Rattle.std.specs.Slice.Iter.{iter_rest}
use Rattle.telling.proofs.Hitting.{Hitting}
use Rattle.telling.proofs.writing.Out.hit_lines.Given as goal

abbrev pub invariant-loop-column : goal.invariant-loop-column
invariant-loop-column l =
    Hitting l.columns l.shifts l.found l.initial.self.at l.initial.self.bytes.now l.self.bytes.now l.self.at (iter_rest (zip_first l.column-iterator))
    (iter_rest (zip_second l.column-iterator))
    × (l.self.bytes.ghost_name ≡ l.initial.self.bytes.ghost_name)
