-- `updating::nearby::Columns::heard_before` meets its contract: a column with a pitch is found, and one without is passed.
use mathlib.Core.Path.{ap}
use mathlib.Core.Bool.{not}
use native.Mathlib.Omega.{arith}
use Rattle.updating.proofs.Neighbours.{before_more, before_found}
use Rattle.updating.proofs.nearby.Columns.heard_before.Goals as goal

pub returns-then-not-empty_at : goal.returns-then-not-empty_at
returns-then-not-empty_at c =
    before_found _ _ _ c.loop-k.invariant c.requires.1 (omega (arith, c.loop-k-test.true)) c.empty_at.ensures (ap not c.if-not-empty_at.true)

pub loop-k-preserved : goal.loop-k-preserved
loop-k-preserved c =
    before_more _ _ _ c.loop-k.invariant c.requires.1 (omega (arith, c.loop-k-test.true)) c.empty_at.ensures (ap not c.if-not-empty_at.false)
