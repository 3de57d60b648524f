-- `preparing::classes::gather` meets its contract.
use native.Mathlib.Omega.{arith}
use Rattle.preparing.proofs.Filling.{gathering_end}
use Rattle.preparing.proofs.classes.gather.Goals as goal

pub returns : goal.returns
returns c = gathering_end _ _ _ c.loop-other.invariant (omega arith) c.split_at.ensures.front c.class_set-2.ensures
