-- The invariant: the tracks of the notes passed are written, and the last of them is known.
use Rattle.routing.proofs.FirstToLast.{Choosing}
use Rattle.routing.proofs.choosing.choose.Given as goal

abbrev pub invariant-loop-i : goal.invariant-loop-i
invariant-loop-i l = Choosing l.notes.sets.now l.initial.route l.route l.t l.i
