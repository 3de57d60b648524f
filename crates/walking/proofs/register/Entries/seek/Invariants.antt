-- The invariant: the columns before the one that the entry `at` decides are decided, and none is a candidate.
use mathlib.Core.List.{[]}
use Prim.Native.Nat.{◌+◌, ◌-◌}
use Rattle.walking.specs.Scan.{Decides}
use Rattle.walking.proofs.register.Entries.seek.Given as goal

abbrev pub invariant-loop-at : goal.invariant-loop-at
invariant-loop-at l = Decides l.self.table.now l.self.sets.now l.m (l.fn.first.0 + l.passed) (l.fn.first.0 + l.many) l.word (l.at + 3 - l.m) []
