-- `finder_c::calls::finder_prepare` meets its contract: what is no call changes nothing; of a call the answer is small, and is told.
--
use Rattle.finder_c.proofs.Through.{prepares_small}
use Rattle.finder_c.proofs.calls.finder_prepare.Goals as goal

pub told_single-requires-clause-small_single : goal.told_single-requires-clause-small_single
told_single-requires-clause-small_single c = prepares_small c.prepare-p.ensures c.of_summary.ensures
