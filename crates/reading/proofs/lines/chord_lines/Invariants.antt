-- The invariant: the columns so far stand in the buffer, and what is left of the text is read from the place on. The measure is
-- how many chords may still come.
use Prim.Native.Nat.{◌-◌}
use Rattle.score.specs.Limits.{most_columns}
use Rattle.reading.proofs.Scoring.{Scoring}
use Rattle.reading.proofs.lines.chord_lines.Given as goal

abbrev pub invariant-loop-at : goal.invariant-loop-at
invariant-loop-at l = Scoring l.text l.from l.initial.cells l.cells l.at l.tracks l.columns l.base

abbrev pub decreases-loop-at : goal.decreases-loop-at
decreases-loop-at l = most_columns - l.columns
