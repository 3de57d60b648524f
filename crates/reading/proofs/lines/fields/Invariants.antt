-- The invariant: the values so far stand in the buffer, and what is left of the line is read from the place on. The measure is
-- how many fields may still come.
use Prim.Native.Nat.{◌-◌}
use Rattle.reading.proofs.Filling.{Filling}
use Rattle.reading.proofs.lines.fields.Given as goal

abbrev pub invariant-loop-b : goal.invariant-loop-b
invariant-loop-b l = Filling l.text l.from l.rests l.limit l.base l.initial.into l.into l.at l.count

abbrev pub decreases-loop-b : goal.decreases-loop-b
decreases-loop-b l = l.limit - l.count
