-- `routing::fewest::backward` meets its contract: a note more, with a change or without one.
use native.Mathlib.Omega.{arith}
use Rattle.routing.proofs.LastToFirst.{counted_start, counted_few, counted_none, counted_both}
use Rattle.routing.proofs.fewest.backward.Goals as goal
use Rattle.routing.proofs.fewest.backward.Goals.{then-both-eq0, else-both-eq0}

pub loop-i-init : goal.loop-i-init
loop-i-init c = counted_start _ _

pub overflow_add-changes : goal.overflow_add-changes
overflow_add-changes c = omega (arith, counted_few _ _ c.loop-i.invariant c.args.notes.now.tracks_there)

pub loop-i-preserved : goal.loop-i-preserved
loop-i-preserved c =
    elim c.if-both-eq0.branch [
      | then-both-eq0 w ↦
          rw (w.changes-is, w.next-is) (counted_none _ _ c.loop-i.invariant c.loop-i-test.true c.requires w.if-both-eq0.true)
      | else-both-eq0 w ↦
          rw (w.changes-is, w.next-is) (counted_both _ _ c.loop-i.invariant c.loop-i-test.true c.requires w.if-both-eq0.false)
    ]
