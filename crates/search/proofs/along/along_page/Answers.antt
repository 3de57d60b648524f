-- `search::along::along_page` meets its contract: by cases on the way.
use Rattle.search.proofs.along.Calls.{written_along}
use Rattle.search.proofs.along.along_page.Goals as goal

pub returns-in-Written : goal.returns-in-Written
returns-in-Written c = rw c.in-Written.is (written_along c.written_page.ensures)
