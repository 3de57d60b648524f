-- A turn takes the turned bits where bit k of the earlier set is one, and nothing where it is none.
use mathlib.Core.Path.{sym, ◌∙◌}
use native.Mathlib.Omega.{arith}
use Rattle.theory.proofs.Bits.{bit_lt}
use Rattle.theory.proofs.Masks.{shr_and_one}
use Rattle.preparing.proofs.Turning.{turning_start, turning_skip, turning_take, turning_end}
use Rattle.preparing.proofs.sets.set_of.Goals as goal
use Rattle.preparing.proofs.sets.set_of.Goals.{then-earlier-k-eq1, else-earlier-k-eq1}

pub loop-k-init : goal.loop-k-init
loop-k-init c = turning_start _ _

pub loop-k-preserved : goal.loop-k-preserved
loop-k-preserved c =
    let t = c.loop-k.invariant in
    let x = c.args.earlier in
    let k = c.loop-k.k in
    let e = shr_and_one x k in
    elim c.if-earlier-k-eq1.branch [
      | then-earlier-k-eq1 w ↦ rw w.reached-is (turning_take _ _ t (omega arith) (sym e ∙ w.if-earlier-k-eq1.true))
      | else-earlier-k-eq1 w ↦ rw w.reached-is (turning_skip _ _ t (omega arith) (omega (arith, bit_lt x k, e, w.if-earlier-k-eq1.false)))
    ]

pub returns : goal.returns
returns c = turning_end _ _ c.loop-k.invariant (omega arith)
