-- The invariant is `Listing`: the candidates among the columns passed are listed. The measure is the columns left.
use Prim.Native.Nat.{◌+◌, ◌-◌, ◌≤◌}
use Rattle.walking.proofs.register.Laws.{Listing}
use Rattle.walking.proofs.register.Entries.list_candidates.Given as goal

abbrev pub invariant-loop-passed : goal.invariant-loop-passed
invariant-loop-passed l = Listing l.self.table.now l.self.sets.now l.m l.first.0 (l.first.0 + l.many) l.initial.list l.list l.word (l.first.0 + l.passed) l.count × (l.count ≤ l.wanted)

abbrev pub decreases-loop-passed : goal.decreases-loop-passed
decreases-loop-passed l = l.many - l.passed
