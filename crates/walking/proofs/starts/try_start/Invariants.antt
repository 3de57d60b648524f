-- The invariant is `Trying`: the notes passed were there.
use Prim.Native.Nat.{◌+◌}
use Rattle.walking.proofs.starts.Trying.{Trying}
use Rattle.walking.proofs.starts.try_start.Given as goal

abbrev pub invariant-loop-note : goal.invariant-loop-note
invariant-loop-note l = Trying l.tune.way l.tune.cells.now l.tune.tracks l.tune.theme.now l.j l.code l.base l.looks (l.note-index + 1)
