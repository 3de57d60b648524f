-- The invariant: the first are sets, the others still class sets, and the class set before them is at hand.
use Rattle.preparing.proofs.Filling.{Turns}
use Rattle.preparing.proofs.sets.turn.Given as goal

abbrev pub invariant-loop-set : goal.invariant-loop-set
invariant-loop-set l = Turns l.first l.initial.sets l.initial.sets l.sets l.set-index l.earlier
