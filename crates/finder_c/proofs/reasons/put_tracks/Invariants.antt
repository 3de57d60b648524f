-- The invariant: the tracks passed are written.
use Rattle.finder_c.proofs.Places.{Copied}
use Rattle.finder_c.proofs.reasons.put_tracks.Given as goal

abbrev pub invariant-loop-i : goal.invariant-loop-i
invariant-loop-i l = Copied l.tracks l.places l.i
