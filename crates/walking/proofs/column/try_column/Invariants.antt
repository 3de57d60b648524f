-- The invariant is `Filling`: what the column gave so far is written. The measure is the codes left.
use Prim.Native.Nat.{◌-◌}
use Rattle.ways.specs.Way.{span}
use Rattle.walking.proofs.column.Filling.{Filling}
use Rattle.walking.proofs.column.try_column.Given as goal

abbrev pub invariant-loop-at : goal.invariant-loop-at
invariant-loop-at l = Filling l.tune.way l.tune.cells.now l.tune.tracks l.tune.theme.now l.spot.column.0 l.initial.code l.initial.at l.initial.columns l.initial.shifts l.columns l.shifts l.code l.at l.looks

abbrev pub decreases-loop-at : goal.decreases-loop-at
decreases-loop-at l = span l.tune.way - l.code
