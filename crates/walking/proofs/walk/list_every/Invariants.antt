-- The invariant: so many columns are listed in front.
use Rattle.walking.proofs.walk.Along.{Counted}
use Rattle.walking.proofs.walk.list_every.Given as goal

abbrev pub invariant-loop-i : goal.invariant-loop-i
invariant-loop-i l = Counted l.first.0 l.initial.list l.list l.i
