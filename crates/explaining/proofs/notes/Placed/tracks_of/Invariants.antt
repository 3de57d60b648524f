-- `explaining::notes::Placed::tracks_of` meets its contract. The invariant: the tracks of the notes passed are written.
use Rattle.score.specs.Score.{score_of}
use Rattle.explaining.proofs.NoteByNote.{Naming}
use Rattle.explaining.proofs.notes.Placed.tracks_of.Given as goal

abbrev pub invariant-loop-i : goal.invariant-loop-i
invariant-loop-i l = Naming l.way l.code (score_of l.self.cells.now l.self.tracks) l.self.theme.now l.self.numbers.now l.named l.i
