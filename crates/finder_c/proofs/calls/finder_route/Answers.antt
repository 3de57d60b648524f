-- `finder_c::calls::finder_route` meets its contract: what is no call changes nothing; of a call the answer is small, and is told.
--
use mathlib.Core.Path.{sym, ◌∙◌}
use Rattle.finder_c.proofs.Through.{routes_none, routes_small}
use Rattle.finder_c.proofs.calls.finder_route.Goals as goal

pub returns-then-no_call : goal.returns-then-no_call
returns-then-no_call c = routes_none (sym c.no_call.ensures ∙ c.if-no_call.true)

pub told_single-requires-clause-small_single : goal.told_single-requires-clause-small_single
told_single-requires-clause-small_single c = routes_small c.route-a.ensures c.of_routed.ensures
