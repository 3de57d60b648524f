-- `preparing::classes::looked_up` meets its contract.
use native.Mathlib.Omega.{arith}
use Rattle.preparing.proofs.ClassSets.{gathered_start, gathered_look, gathered_end}
use Rattle.preparing.proofs.classes.looked_up.Goals as goal

pub loop-cell-init : goal.loop-cell-init
loop-cell-init c = gathered_start _

pub loop-cell-preserved : goal.loop-cell-preserved
loop-cell-preserved c =
    gathered_look _ c.loop-cell.invariant (omega arith) c.requires (omega (arith, c.type_inv.column c.loop-cell.cell-index))

pub returns : goal.returns
returns c = gathered_end _ c.loop-cell.invariant (omega arith)
