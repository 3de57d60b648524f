-- `passing::numbers::kept_sets` meets its contract. The invariant: the entries at the numbers passed stand over the front of the
-- buffer.
use mathlib.Core.List.{map}
use Rattle.passing.specs.Passing.{entry_at}
use Rattle.passing.proofs.Numbering.{Writing}
use Rattle.passing.proofs.numbers.kept_sets.Given as goal

abbrev pub invariant-loop-i : goal.invariant-loop-i
invariant-loop-i l = Writing (map (entry_at l.sets) l.numbers) l.initial.kept l.kept l.i
