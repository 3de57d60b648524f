-- `passing::empties::any_from` meets its contract: an empty column is found, and a column that is not empty is passed.
use Rattle.passing.proofs.Looking.{ones_found, ones_passed}
use Rattle.passing.proofs.empties.any_from.Goals as goal

pub returns-then-is_empty : goal.returns-then-is_empty
returns-then-is_empty c =
    ones_found _ _ c.loop.invariant c.loop-test.true c.split_at.ensures.front c.is_empty.ensures c.if-is_empty.true

pub loop-preserved : goal.loop-preserved
loop-preserved c =
    let e = c.split_at.ensures in
    ones_passed _ _ c.loop.invariant c.loop-test.true e.front c.is_empty.ensures e.back c.if-is_empty.false
