-- The invariant: of the notes gone through the fewest changes are counted, and the best tracks kept.
use Rattle.routing.proofs.LastToFirst.{CountedBack}
use Rattle.routing.proofs.fewest.backward.Given as goal

abbrev pub invariant-loop-i : goal.invariant-loop-i
invariant-loop-i l = CountedBack l.notes.sets.now l.initial.best l.best l.changes l.next l.i
