-- `updating::nearby::Columns::heard_after` meets its contract. The invariant: the columns passed have no pitch.
use Rattle.updating.proofs.Neighbours.{After}
use Rattle.updating.proofs.nearby.Columns.heard_after.Given as goal

abbrev pub invariant-loop-at : goal.invariant-loop-at
invariant-loop-at l = After l.self.cells.now l.self.tracks l.self.n l.k l.at
