-- `seeking::columns::sought_behind` meets its contract: a column with a pitch is found, one without is passed over.
use mathlib.Core.Path.{ap}
use mathlib.Core.Bool.{not}
use Prim.Native.Nat.{◌<◌}
use native.Mathlib.Omega.{arith}
use Rattle.score.specs.Score.{columns_in}
use Rattle.seeking.specs.Limits.{most_sought}
use Rattle.seeking.proofs.Finding.{found_skip, found_take, found_end, found_full}
use Rattle.seeking.proofs.columns.sought_behind.Goals as goal
use Rattle.seeking.proofs.columns.sought_behind.Goals.{then-not-is_empty, else-not-is_empty}

pub loop-k-preserved : goal.loop-k-preserved
loop-k-preserved c =
    let f = c.loop-k.invariant in
    let more : c.loop-k.k < columns_in c.args.cells.now c.args.tracks = omega (arith, c.loop-k-test.true, c.columns_in-n.ensures) in
    let room : c.loop-k.q < most_sought = omega (arith, f.room, c.if-q-eq-MOST_SOUGHT.false) in
    elim c.if-not-is_empty.branch [
      | then-not-is_empty w ↦ rw (w.numbers-is, w.q-is) (found_take _ _ _ f more c.is_empty.ensures room (ap not w.if-not-is_empty.true))
      | else-not-is_empty w ↦ rw (w.numbers-is, w.q-is) (found_skip _ _ _ f more c.is_empty.ensures (ap not w.if-not-is_empty.false))
    ]

pub returns-after-loop-k : goal.returns-after-loop-k
returns-after-loop-k c = found_end _ _ _ c.loop-k.invariant c.columns_in-n.ensures c.loop-k-test.false

pub returns-then-q-eq-MOST_SOUGHT : goal.returns-then-q-eq-MOST_SOUGHT
returns-then-q-eq-MOST_SOUGHT c = found_full _ _ _ c.loop-k.invariant (omega (arith, c.if-q-eq-MOST_SOUGHT.true))
