-- The invariant: the bits below the cell are made.
use Rattle.preparing.proofs.ClassSets.{Tabled}
use Rattle.preparing.proofs.classes.class_bits.Given as goal

abbrev pub invariant-loop-cell : goal.invariant-loop-cell
invariant-loop-cell l = Tabled l.bits l.cell
