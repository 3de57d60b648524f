-- `holding::next::next_code` meets its contract: it is the span, or it is sought.
use Rattle.holding.proofs.Given.{none_next, found_next}
use Rattle.holding.proofs.next.next_code.Goals as goal

pub returns-then-end-x : goal.returns-then-end-x
returns-then-end-x c = none_next _ _ _ _ c.span_of-end.ensures c.if-end-x.either

pub returns-else-end-x : goal.returns-else-end-x
returns-else-end-x c = let (p, x) = c.if-end-x.false in found_next _ _ _ _ c.span_of-end.ensures p x c.lowest_code.ensures
