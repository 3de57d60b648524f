-- The invariant: of the starts of the listed columns those before the next column are tried.
use Rattle.score.specs.Score.{score_of}
use Rattle.walking.specs.Alive.{Cached}
use Rattle.walking.proofs.walk.Trying.{Trying}
use Rattle.walking.proofs.walk.walk_along.Given as goal

abbrev pub invariant-loop-column : goal.invariant-loop-column
invariant-loop-column l = Trying l.tune.way (score_of l.tune.cells.now l.tune.tracks) l.tune.theme.now l.spot l.list l.initial.columns l.initial.shifts l.columns l.shifts l.found l.looks l.column-index × Cached l.tune.way l.tune.cells.now l.tune.tracks l.ring
