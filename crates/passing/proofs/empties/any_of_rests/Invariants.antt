-- `passing::empties::any_of_rests` meets its contract. The invariant: the columns left settle the answer, and the next begins at
-- base. The measure is the columns left.
use Rattle.score.specs.Score.{columns_in}
use Rattle.passing.proofs.Looking.{Left}
use Rattle.passing.proofs.empties.any_of_rests.Given as goal

abbrev pub invariant-loop-tracks : goal.invariant-loop-tracks
invariant-loop-tracks l = Left l.cells l.tracks 0 (columns_in l.cells l.tracks) l.base l.left

abbrev pub decreases-loop-tracks : goal.decreases-loop-tracks
decreases-loop-tracks l = l.left
