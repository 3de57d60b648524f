-- The invariant: the first k are sets, the others still class sets, and the class set before them is at hand.
use Rattle.preparing.proofs.Filling.{Turns}
use Rattle.preparing.proofs.sets.turn_to.Given as goal

abbrev pub invariant-loop-k : goal.invariant-loop-k
invariant-loop-k l = Turns l.first l.initial.others l.later l.others l.k l.earlier
