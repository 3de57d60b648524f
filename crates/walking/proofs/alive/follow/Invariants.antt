-- The invariant is `Following`: the notes so far were there at the starts that are alive.
use Rattle.masks.specs.Masks.{value}
use Rattle.masks.proofs.Halves.{Halves}
use Rattle.walking.specs.Alive.{Cached}
use Rattle.walking.proofs.alive.Laws.{Following}
use Rattle.walking.proofs.alive.follow.Given as goal

abbrev pub invariant-loop-k : goal.invariant-loop-k
invariant-loop-k l = Following l.tune.way l.tune.cells.now l.tune.tracks l.tune.theme.now l.column.0 (value l.low l.high) l.looks l.k × Halves l.low l.high × Cached l.tune.way l.tune.cells.now l.tune.tracks l.ring
