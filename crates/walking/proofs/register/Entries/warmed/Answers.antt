-- The register begins all ones, takes one word more at each turn, and at the end has taken them all.
use mathlib.Core.Path.{sym}
use native.Mathlib.Omega.{arith}
use Rattle.theory.proofs.Register.{reg_from_none, reg_from_turn}
use Rattle.walking.proofs.register.Entries.warmed.Goals as goal

pub loop-at-init : goal.loop-at-init
loop-at-init c = sym (reg_from_none 32 _ _)

pub loop-at-preserved : goal.loop-at-preserved
loop-at-preserved c =
    let a = c.loop-at in
    reg_from_turn 32 _ _ a.at (omega arith) a.invariant c.taken-register.ensures
