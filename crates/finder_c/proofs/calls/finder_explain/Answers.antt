-- `finder_c::calls::finder_explain` meets its contract: what is no call changes nothing; of a call the answer is small, and is told.
use Rattle.finder_c.proofs.Through.{explains_small}
use Rattle.finder_c.proofs.calls.finder_explain.Goals as goal

pub told_explanation-requires-clause-small_explanation : goal.told_explanation-requires-clause-small_explanation
told_explanation-requires-clause-small_explanation c = explains_small _ _ _ c.way_of.result _ _ c.explain-e.ensures
