-- `passing::taking::take_each` meets its contract: a column with a pitch is copied, and its number; one without is passed over.
use mathlib.Core.Path.{ap, ◌∙◌}
use mathlib.Core.Bool.{not}
use Prim.Native.Nat.{◌<◌}
use native.Mathlib.Omega.{arith}
use Rattle.score.specs.Score.{columns_in}
use Rattle.passing.proofs.Copied.{taking_take, taking_skip, taking_end, room_of}
use Rattle.passing.proofs.taking.take_each.Goals as goal
use Rattle.passing.proofs.taking.take_each.Goals.{then-not-is_empty, else-not-is_empty}

pub loop-k-preserved : goal.loop-k-preserved
loop-k-preserved c =
    let l : c.loop-k.k < columns_in c.args.cells.now c.args.tracks = omega (arith, c.loop-k-test.true, c.requires.0) in
    let e = c.split_at.ensures in
    let room = room_of _ _ _ _ c.requires.1 in
    elim c.if-not-is_empty.branch [
      | then-not-is_empty w ↦
          rw (w.numbers-is, w.q-is, w.at-is) (taking_take _ _ c.loop-k.invariant l e.front e.back c.is_empty.ensures room (ap not w.if-not-is_empty.true) (w.kept-is ∙ w.copy.ensures))
      | else-not-is_empty w ↦ rw (w.kept-is, w.numbers-is, w.q-is, w.at-is) (taking_skip _ _ c.loop-k.invariant l e.front e.back c.is_empty.ensures (ap not w.if-not-is_empty.false))
    ]

pub returns : goal.returns
returns c = taking_end _ _ c.loop-k.invariant c.requires.1 (omega (arith, c.loop-k-test.false, c.requires.0))
