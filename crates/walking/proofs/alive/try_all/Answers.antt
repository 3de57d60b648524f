-- Where every start is asked for and there is room for every hit, what follows is the page.
use Rattle.masks.proofs.Halves.{Halves, value_ones}
use native.Mathlib.Omega.{arith}
use Rattle.walking.proofs.alive.AtOnce.{at_once}
use Rattle.walking.proofs.alive.try_all.Goals as goal

pub returns-then-hits-columns : goal.returns-then-hits-columns
returns-then-hits-columns c =
    let w = c.follow-a.result.word in
    let halves : Halves w.low w.high = record { lower = omega arith; upper = omega arith } in
    let room = rw (value_ones _ _ halves) at c.if-hits-columns.true in
    let s = c.requires.stands in (
      rw c.if-spot-eq0.true
          (at_once _ _ _ _ _ _ c.follow-a.ensures.0 (c.args.tune.now.ready.sung 0) _ _ _ s.same_room s.room room _ _ _ c.put_hits.ensures),
      c.follow-a.ensures.1,
    )
