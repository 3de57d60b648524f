-- The invariant is `Gathering` of the one number: the cells so far have their bits.
use Rattle.masks.specs.Masks.{value}
use Rattle.masks.proofs.Halves.{Halves}
use Rattle.masks.proofs.Gathering.{Gathering}
use Rattle.masks.proofs.columns.pitch_word.Given as goal

abbrev pub invariant-loop-cell : goal.invariant-loop-cell
invariant-loop-cell l = Gathering l.column l.cell-index (value l.low l.high) × Halves l.low l.high
