-- `search::passed::Heard::among` meets its contract: the place of the bookmark's column among the numbers fits a number of a column.
use native.Mathlib.Omega.{arith}
use Rattle.search.proofs.passed.Laws.{place_few}
use Rattle.search.proofs.passed.Heard.among.Goals as goal

pub overflow_add-result-2 : goal.overflow_add-result-2
overflow_add-result-2 c = omega (arith, place_few c.args.self.now.numbers.now c.args.bookmark.column.0 c.rank-at.ensures c.args.self.now.numbers_few)

pub overflow_cast-result-2 : goal.overflow_cast-result-2
overflow_cast-result-2 c = omega (arith, place_few c.args.self.now.numbers.now c.args.bookmark.column.0 c.rank-at.ensures c.args.self.now.numbers_few)
