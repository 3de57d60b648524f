-- The invariant: the class sets of the columns gone through after the first are stored, and the cells left begin behind them.
use lib.ListN.{length}
use Rattle.preparing.proofs.Filling.{Gathering}
use Rattle.preparing.proofs.classes.gather.Given as goal

abbrev pub invariant-loop-other : goal.invariant-loop-other
invariant-loop-other l = Gathering l.cells l.tracks (length l.initial.others) l.others l.other-index l.left
