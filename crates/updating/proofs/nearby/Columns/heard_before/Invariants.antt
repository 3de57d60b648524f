-- `updating::nearby::Columns::heard_before` meets its contract. The invariant: the columns passed, going back, have no pitch.
use Prim.Native.Nat.{◌-◌}
use Rattle.updating.proofs.Neighbours.{Before}
use Rattle.updating.proofs.nearby.Columns.heard_before.Given as goal

abbrev pub invariant-loop-k : goal.invariant-loop-k
invariant-loop-k l = Before l.self.cells.now l.self.tracks l.self.n l.c (l.k - 1)
