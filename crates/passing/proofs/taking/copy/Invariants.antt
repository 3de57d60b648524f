-- `passing::taking::copy` meets its contract. The invariant: the cells passed are stored from the place on.
use Rattle.passing.proofs.Copied.{Copying}
use Rattle.passing.proofs.taking.copy.Given as goal

abbrev pub invariant-loop-i : goal.invariant-loop-i
invariant-loop-i l = Copying l.column l.initial.kept l.at l.kept l.i
