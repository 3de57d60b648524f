-- `seeking::columns::sought_behind` meets its contract. The invariant: the numbers found, with those of the columns left, are all
-- of them.
use Rattle.seeking.proofs.Finding.{Seeking}
use Rattle.seeking.proofs.columns.sought_behind.Given as goal

abbrev pub invariant-loop-k : goal.invariant-loop-k
invariant-loop-k l = Seeking l.cells l.tracks l.passed l.numbers l.k l.q
