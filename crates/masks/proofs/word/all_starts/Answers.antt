-- By cases on the way.
use Rattle.masks.proofs.HeldWords.{all_exact, all_octave}
use Rattle.masks.proofs.word.all_starts.Goals as goal

pub returns-in-Exact : goal.returns-in-Exact
returns-in-Exact c = rw c.in-Exact.is all_exact

pub returns-in-Octave : goal.returns-in-Octave
returns-in-Octave c = rw c.in-Octave.is all_octave
