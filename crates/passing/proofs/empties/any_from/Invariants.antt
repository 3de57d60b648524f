-- `passing::empties::any_from` meets its contract. The invariant: the columns left settle the answer, and the cells left begin
-- with them.
use Rattle.passing.proofs.Looking.{Ones}
use Rattle.passing.proofs.empties.any_from.Given as goal

abbrev pub invariant-loop : goal.invariant-loop
invariant-loop l = Ones l.cells l.tracks l.base l.many l.counter l.left
