-- `finder_c::calls::finder_update` meets its contract: what is no call changes nothing; of a call the answer is small, and is told.
--
use Rattle.finder_c.proofs.Through.{updates_small}
use Rattle.finder_c.proofs.calls.finder_update.Goals as goal

pub told_single-requires-clause-small_single : goal.told_single-requires-clause-small_single
told_single-requires-clause-small_single c = updates_small c.update-c.ensures c.of_summary.ensures
