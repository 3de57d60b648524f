-- `passing::empties::is_empty` meets its contract. The invariant: no cell passed is a pitch.
use mathlib.Core.Bool.{false}
use Rattle.theory.proofs.Scans.{Flagged}
use Rattle.passing.proofs.Looking.{is_pitch}
use Rattle.passing.proofs.empties.is_empty.Given as goal

abbrev pub invariant-loop-cell : goal.invariant-loop-cell
invariant-loop-cell l = Flagged is_pitch l.column l.cell-index false
