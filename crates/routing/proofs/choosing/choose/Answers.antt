-- `routing::choosing::choose` meets its contract: each turn writes the next track.
use Rattle.routing.proofs.FirstToLast.{next_asked, choosing_more, choosing_end}
use Rattle.routing.proofs.choosing.choose.Goals as goal

pub next_track-t-requires : goal.next_track-t-requires
next_track-t-requires c = next_asked _ _ c.args.notes.now.tracks_there c.requires.0 c.loop-i.invariant c.loop-i-test.true

pub loop-i-preserved : goal.loop-i-preserved
loop-i-preserved c =
    choosing_more _ _ c.args.notes.now.tracks_there c.requires.0 c.loop-i.invariant c.loop-i-test.true c.next_track-t.ensures c.requires.1

pub returns : goal.returns
returns c = choosing_end _ _ c.loop-i.invariant c.loop-i-test.false
