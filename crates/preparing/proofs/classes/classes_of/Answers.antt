-- A turn keeps what was gathered: the cell's class where it is a pitch, and nothing where it is none.
use native.Mathlib.Omega.{arith}
use Rattle.preparing.proofs.ClassSets.{gathered_start, gathered_rest, gathered_shl, gathered_end}
use Rattle.preparing.proofs.classes.classes_of.Goals as goal
use Rattle.preparing.proofs.classes.classes_of.Goals.{then-cell-le-HIGHEST_PITCH, else-cell-le-HIGHEST_PITCH}

pub loop-cell-init : goal.loop-cell-init
loop-cell-init c = gathered_start _

pub loop-cell-preserved : goal.loop-cell-preserved
loop-cell-preserved c =
    elim c.if-cell-le-HIGHEST_PITCH.branch [
      | then-cell-le-HIGHEST_PITCH w ↦ rw (w.mask-is, w.class_of.ensures) (gathered_shl _ c.loop-cell.invariant (omega arith) (omega arith))
      | else-cell-le-HIGHEST_PITCH w ↦ rw w.mask-is (gathered_rest _ c.loop-cell.invariant (omega arith) (omega arith))
    ]

pub returns : goal.returns
returns c = gathered_end _ c.loop-cell.invariant (omega arith)
