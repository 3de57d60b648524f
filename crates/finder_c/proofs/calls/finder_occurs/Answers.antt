-- `finder_c::calls::finder_occurs` meets its contract: what is no call changes nothing; of a call the answer is small, and is told.
--
use Rattle.finder_c.proofs.Through.{occurs_small}
use Rattle.finder_c.proofs.calls.finder_occurs.Goals as goal

pub told_single-requires-clause-small_single : goal.told_single-requires-clause-small_single
told_single-requires-clause-small_single c = occurs_small c.args.summary c.occurs-o.ensures c.of_occurrence.ensures
