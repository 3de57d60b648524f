-- The invariant: all places but those left are stored, and the class set to carry on is at hand.
use Rattle.preparing.proofs.Carrying.{Carrying}
use Rattle.preparing.proofs.heard.carry.Given as goal

abbrev pub invariant-loop-k : goal.invariant-loop-k
invariant-loop-k l = Carrying l.others l.later l.next l.k
