-- `explaining::notes::Placed::tracks_of` meets its contract: the track of the next note is written.
use native.Mathlib.Omega.{arith}
use lib.ListN.{get_or}
use Rattle.score.specs.Score.{pitch}
use Rattle.explaining.proofs.NoteByNote.{track_few, naming_more}
use Rattle.explaining.proofs.notes.Placed.tracks_of.Goals as goal

pub overflow_cast-named : goal.overflow_cast-named
overflow_cast-named c =
    let a = c.args in
    let s = a.self.now in
    omega (
      arith,
      s.columns_there.tracks_few,
      track_few a.way a.code (pitch (get_or s.theme.now c.loop-i.i 0)) s.cells.now s.tracks (get_or s.numbers.now c.loop-i.i 0)
          c.column_of.ensures c.lowest_track.ensures,
    )

pub loop-i-preserved : goal.loop-i-preserved
loop-i-preserved c =
    naming_more _ _ _ _ _ c.loop-i.invariant c.args.self.now.columns_there.notes_few c.loop-i-test.true c.column_of.ensures
    c.lowest_track.ensures
