-- `occurring::question::occurs` meets its contract: by a page where the summary is right and lacks no interval, and otherwise
-- without a walk.
use Rattle.occurring.proofs.Choosing.{by_page_occurs, right_lacks, without_walk_occurs}
use Rattle.occurring.proofs.question.occurs.Goals as goal

pub returns-then-right-lacking : goal.returns-then-right-lacking
returns-then-right-lacking c =
    let a = c.args in
    by_page_occurs a.cells.now a.tracks a.theme.now a.way a.sets.now a.summary a.table.now c.is_summary-right.ensures
    c.lacks-lacking.result c.if-right-lacking.true c.by_page.ensures

pub without_walk-requires : goal.without_walk-requires
without_walk-requires c =
    let a = c.args in
    right_lacks a.cells.now a.tracks a.theme.now a.way a.sets.now a.summary a.table.now c.is_summary-right.ensures
    c.lacks-lacking.ensures c.if-right-lacking.false

pub returns : goal.returns
returns c =
    let a = c.args in
    without_walk_occurs a.cells.now a.tracks a.theme.now a.way a.sets.now a.summary a.table.now c.is_summary-right.ensures
    c.without_walk.ensures
