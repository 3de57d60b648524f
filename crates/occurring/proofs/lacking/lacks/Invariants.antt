-- The invariant: the flag says whether an interval passed is lacking.
use Rattle.filter.proofs.Neighbours.{Neighbours, passed}
use Rattle.occurring.proofs.Looking.{Looked}
use Rattle.occurring.proofs.lacking.lacks.Given as goal

abbrev pub invariant-loop-notes : goal.invariant-loop-notes
invariant-loop-notes l = record {
  neighbours : Neighbours l.theme l.notes-iterator;
  looked : Looked l.theme l.summary.0 (passed l.theme l.notes-iterator) l.lacks;
}
