-- The invariant: the mask has the classes of the cells passed.
use Rattle.preparing.proofs.ClassSets.{Gathered}
use Rattle.preparing.proofs.classes.classes_of.Given as goal

abbrev pub invariant-loop-cell : goal.invariant-loop-cell
invariant-loop-cell l = Gathered l.column l.cell-index l.mask
