-- The invariant is `Putting`: what is written and what is still marked are all that was marked. The measure is what is still
-- marked, as a number.
use Rattle.hits.proofs.writing.Putting.{Putting}
use Rattle.hits.proofs.writing.put_marked.Given as goal

abbrev pub invariant-loop-left : goal.invariant-loop-left
invariant-loop-left l = Putting l.way l.column.0 l.from l.half l.first l.initial.columns l.initial.shifts l.columns l.shifts l.left l.at

abbrev pub decreases-loop-left : goal.decreases-loop-left
decreases-loop-left l = l.left
