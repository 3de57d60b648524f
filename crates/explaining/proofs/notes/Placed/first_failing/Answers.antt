-- `explaining::notes::Placed::first_failing` meets its contract: at first no note is gone through.
use native.Mathlib.Omega.{arith}
use Rattle.explaining.proofs.NoteByNote.{gone_start}
use Rattle.explaining.proofs.notes.Placed.first_failing.Goals as goal

pub loop-i-init : goal.loop-i-init
loop-i-init c = record { gone = gone_start _ _ _ _ _; within = omega arith }
