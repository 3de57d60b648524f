-- `explaining::notes::Placed::first_failing` meets its contract. The invariant: of the notes gone through, the one found is
-- the first that fails.
use Rattle.std.proofs.Common.{◌≤◌, length}
use Rattle.score.specs.Score.{score_of}
use Rattle.explaining.proofs.NoteByNote.{Gone}
use Rattle.explaining.proofs.notes.Placed.first_failing.Given as goal

abbrev pub invariant-loop-i : goal.invariant-loop-i
invariant-loop-i l = record {
  gone : Gone l.way l.code (score_of l.self.cells.now l.self.tracks) l.self.theme.now l.self.numbers.now l.i l.found;
  within : l.i ≤ length l.self.theme.now;
}
