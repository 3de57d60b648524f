-- The invariant: what is reached from the classes below k.
use Rattle.preparing.proofs.Turning.{Turning}
use Rattle.preparing.proofs.sets.set_of.Given as goal

abbrev pub invariant-loop-k : goal.invariant-loop-k
invariant-loop-k l = Turning l.earlier l.later l.k l.reached
