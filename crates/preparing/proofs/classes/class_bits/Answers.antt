-- `preparing::classes::class_bits` meets its contract.
use Rattle.preparing.proofs.ClassSets.{tabled_start}
use Rattle.preparing.proofs.classes.class_bits.Goals as goal

pub loop-cell-init : goal.loop-cell-init
loop-cell-init c = tabled_start
