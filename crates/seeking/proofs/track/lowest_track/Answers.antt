-- `seeking::track::lowest_track` meets its contract: by the first cell that holds the note, if there is one.
use Rattle.seeking.proofs.Tracks.{track_found, track_none}
use Rattle.seeking.proofs.track.lowest_track.Goals as goal

pub returns-then-k-column : goal.returns-then-k-column
returns-then-k-column c =
    let a = c.args in
    track_found a.way a.code a.p a.column.now c.first_cell-k.ensures c.if-k-column.true

pub returns-else-k-column : goal.returns-else-k-column
returns-else-k-column c =
    let a = c.args in
    track_none a.way a.code a.p a.column.now c.first_cell-k.ensures c.if-k-column.false
