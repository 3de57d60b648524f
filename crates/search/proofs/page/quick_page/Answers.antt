-- `search::page::quick_page` meets its contract: along all columns, turned away, or over the empty columns.
use Rattle.std.proofs.lemmas.Result.{err_from_is_err_and}
use Rattle.std.proofs.Common.{ℕ}
use native.Mathlib.Omega.{arith}
use lib.ListN.{length-replicate}
use Rattle.score.specs.Limits.{most_cells}
use Rattle.search.proofs.page.Choosing.{cells_most, leaves, along_quick_pages, quick_checked, quick_refused}
use Rattle.search.proofs.page.quick_page.Goals as goal

pub returns-then-goes_along : goal.returns-then-goes_along
returns-then-goes_along c =
    let a = c.args in
    along_quick_pages a.cells.now a.tracks a.theme.now a.way a.bookmark a.sets.now a.table.now a.columns.now
    a.shifts.now c.goes_along.ensures c.if-goes_along.true c.quick_along_page.ensures

pub returns-in_err-check_quick : goal.returns-in_err-check_quick
returns-in_err-check_quick c =
    let a = c.args in
    let p = err_from_is_err_and c.from_residual.result c.from_residual.ensures.1 in
    rw (p.1, p.2) (quick_refused a.cells.now a.tracks a.theme.now a.way a.bookmark a.sets.now a.table.now a.columns.now a.shifts.now
    c.check_quick.ensures c.in_err-check_quick.was)

pub passed_quick_page-requires-clause-quick_asks : goal.passed_quick_page-requires-clause-quick_asks
passed_quick_page-requires-clause-quick_asks c =
    let a = c.args in
    quick_checked a.cells.now a.tracks a.theme.now a.way a.bookmark a.sets.now a.table.now a.columns.now
    a.shifts.now c.check_quick.ensures c.in_ok-check_quick.was

pub passed_quick_page-requires-clause-leaves : goal.passed_quick_page-requires-clause-leaves
passed_quick_page-requires-clause-leaves c =
    let a = c.args in
    let k = quick_checked a.cells.now a.tracks a.theme.now a.way a.bookmark a.sets.now a.table.now a.columns.now
    a.shifts.now c.check_quick.ensures c.in_ok-check_quick.was in
    leaves k.plain.accepted c.goes_along.ensures c.if-goes_along.false (omega (arith, length-replicate {A = ℕ} 2048 0))

pub passed_quick_page-requires-2-clause-quick_asks : goal.passed_quick_page-requires-2-clause-quick_asks
passed_quick_page-requires-2-clause-quick_asks c =
    let a = c.args in
    quick_checked a.cells.now a.tracks a.theme.now a.way a.bookmark a.sets.now a.table.now a.columns.now
    a.shifts.now c.check_quick.ensures c.in_ok-check_quick.was

pub passed_quick_page-requires-2-clause-leaves : goal.passed_quick_page-requires-2-clause-leaves
passed_quick_page-requires-2-clause-leaves c =
    let a = c.args in
    let k = quick_checked a.cells.now a.tracks a.theme.now a.way a.bookmark a.sets.now a.table.now a.columns.now
    a.shifts.now c.check_quick.ensures c.in_ok-check_quick.was in
    leaves k.plain.accepted c.goes_along.ensures c.if-goes_along.false
    (omega (arith, cells_most k.plain.accepted, length-replicate {A = ℕ} most_cells 0))
