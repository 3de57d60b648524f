-- `seeking::track::cell_holds` meets its contract: a rest holds no note, and a pitch by the way.
use Rattle.seeking.proofs.Tracks.{cell_rest, cell_exact, cell_octave}
use Rattle.seeking.proofs.track.cell_holds.Goals as goal

pub returns-then-cell-gt-HIGHEST_PITCH : goal.returns-then-cell-gt-HIGHEST_PITCH
returns-then-cell-gt-HIGHEST_PITCH c = let a = c.args in cell_rest a.code a.p a.cell a.way c.if-cell-gt-HIGHEST_PITCH.true

pub returns-in-Exact : goal.returns-in-Exact
returns-in-Exact c = let a = c.args in rw c.in-Exact.is (cell_exact a.code a.p a.cell c.if-cell-gt-HIGHEST_PITCH.false)

pub returns-in-Octave : goal.returns-in-Octave
returns-in-Octave c = let a = c.args in rw c.in-Octave.is (cell_octave a.code a.p a.cell c.if-cell-gt-HIGHEST_PITCH.false)
