-- The invariant: the least code found and what is left of the column give the column's next code.
use Rattle.holding.proofs.next.Lowering.{Lowering}
use Rattle.holding.proofs.next.lowest_code.Given as goal

abbrev pub invariant-loop-cell : goal.invariant-loop-cell
invariant-loop-cell l = Lowering l.way l.p l.column l.x l.best l.cell-index
