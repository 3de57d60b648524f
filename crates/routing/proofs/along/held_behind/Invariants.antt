-- The invariant: the sets found, with those of the notes and columns left, are all of them.
use Rattle.routing.proofs.ColumnByColumn.{AlongNotes}
use Rattle.routing.proofs.along.held_behind.Given as goal

abbrev pub invariant-loop-k : goal.invariant-loop-k
invariant-loop-k l = AlongNotes l.way l.code l.tune.cells.now l.tune.tracks l.tune.theme.now l.passed l.initial.sets l.sets l.k l.q
