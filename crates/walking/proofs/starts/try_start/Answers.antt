-- `walking::starts::try_start` meets its contract: a missing note ends the trial, and one that is there leaves the rest.
use native.Mathlib.Omega.{arith}
use Prim.Native.Nat.{◌+◌, ◌<◌}
use lib.ListN.{length}
use Rattle.walking.proofs.starts.Trying.{notes_behind, note_behind, try_miss, try_turn, try_end}
use Rattle.walking.proofs.starts.try_start.Goals as goal

pub returns-then-not-holds_at : goal.returns-then-not-holds_at
returns-then-not-holds_at c =
    let k = c.loop-note in
    let more : k.note-index + 1 < length c.args.tune.now.theme.now = omega (arith, notes_behind c.args.tune.now.theme.now) in
    try_miss _ _ _ _ _ _ c.args.tune.now.ready c.requires.fits _ _ _ k.invariant more _ (rw note_behind at c.holds_at.ensures) c.if-not-holds_at.true

pub loop-note-preserved : goal.loop-note-preserved
loop-note-preserved c =
    let k = c.loop-note in
    let more : k.note-index + 1 < length c.args.tune.now.theme.now = omega (arith, notes_behind c.args.tune.now.theme.now) in
    try_turn _ _ _ _ _ _ c.args.tune.now.ready c.requires.fits _ _ _ k.invariant more _ (rw note_behind at c.holds_at.ensures) c.if-not-holds_at.false

pub returns : goal.returns
returns c = try_end _ _ _ _ _ _ c.args.tune.now.ready c.requires.fits _ _ _ c.loop-note.invariant (omega (arith, notes_behind c.args.tune.now.theme.now))
