-- `passing::numbers::rename` meets its contract. The invariant: the columns passed, of those that were found, stand under their
-- other numbers.
use mathlib.Core.List.{map}
use Rattle.passing.specs.Passing.{entry_at}
use Rattle.passing.proofs.Numbering.{Writing}
use Rattle.passing.proofs.numbers.rename.Given as goal

abbrev pub invariant-loop-column : goal.invariant-loop-column
invariant-loop-column l =
    Writing (map (entry_at l.numbers) l.initial.column-items) l.initial.column-items l.column-items l.column-index
