-- `holding::next::lowest_code` meets its contract.
use Rattle.holding.proofs.next.Lowering.{low_end}
use Rattle.holding.proofs.next.lowest_code.Goals as goal

pub returns : goal.returns
returns c = let s = c in low_end _ _ _ _ _ _ s.requires.0 s.requires.1 c.loop-cell-test.false c.loop-cell.invariant
