-- `finder_c::calls::finder_quick_page` meets its contract: what is no call changes nothing; of a call the page is small, and
-- is told.
use Rattle.finder_c.proofs.Through.{quick_pages_small}
use Rattle.finder_c.proofs.calls.finder_quick_page.Goals as goal

pub told_page-requires-clause-small_page : goal.told_page-requires-clause-small_page
told_page-requires-clause-small_page c = quick_pages_small c.quick_page-p.ensures
