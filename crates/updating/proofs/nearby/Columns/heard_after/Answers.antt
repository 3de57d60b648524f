-- `updating::nearby::Columns::heard_after` meets its contract: a column without a pitch is passed, and where none is left none has one.
use mathlib.Core.Path.{ap}
use mathlib.Core.Bool.{not}
use native.Mathlib.Omega.{arith}
use Rattle.updating.proofs.Neighbours.{after_more, after_end}
use Rattle.updating.proofs.nearby.Columns.heard_after.Goals as goal

pub loop-at-preserved : goal.loop-at-preserved
loop-at-preserved c = after_more _ _ _ c.loop-at.invariant (omega (arith, c.loop-at-test.true)) c.empty_at.ensures (ap not c.if-not-empty_at.false)

pub returns : goal.returns
returns c = omega (arith, after_end _ _ _ c.loop-at.invariant (omega arith), c.loop-at.invariant.within)
