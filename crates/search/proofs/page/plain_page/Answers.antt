-- `search::page::plain_page` meets its contract: along all columns, turned away, or over the empty columns.
use Rattle.std.proofs.lemmas.Result.{err_from_is_err_and}
use Rattle.std.proofs.Common.{ℕ}
use native.Mathlib.Omega.{arith}
use lib.ListN.{length-replicate}
use Rattle.score.specs.Limits.{most_cells}
use Rattle.search.proofs.page.Choosing.{cells_most, leaves, along_pages, plain_checked, plain_refused}
use Rattle.search.proofs.page.plain_page.Goals as goal

pub returns-then-goes_along : goal.returns-then-goes_along
returns-then-goes_along c =
    let a = c.args in
    along_pages a.cells.now a.tracks a.theme.now a.way a.bookmark a.columns.now a.shifts.now c.goes_along.ensures
    c.if-goes_along.true c.along_page.ensures

pub returns-in_err-check_plain : goal.returns-in_err-check_plain
returns-in_err-check_plain c =
    let a = c.args in
    let p = err_from_is_err_and c.from_residual.result c.from_residual.ensures.1 in
    rw (p.1, p.2) (plain_refused a.cells.now a.tracks a.theme.now a.way a.bookmark a.columns.now a.shifts.now
    c.check_plain.ensures c.in_err-check_plain.was)

pub passed_page-requires-clause-plain_asks : goal.passed_page-requires-clause-plain_asks
passed_page-requires-clause-plain_asks c =
    let a = c.args in
    plain_checked a.cells.now a.tracks a.theme.now a.way a.bookmark a.columns.now a.shifts.now c.check_plain.ensures c.in_ok-check_plain.was

pub passed_page-requires-clause-leaves : goal.passed_page-requires-clause-leaves
passed_page-requires-clause-leaves c =
    let a = c.args in
    let k = plain_checked a.cells.now a.tracks a.theme.now a.way a.bookmark a.columns.now a.shifts.now
    c.check_plain.ensures c.in_ok-check_plain.was in
    leaves k.accepted c.goes_along.ensures c.if-goes_along.false (omega (arith, length-replicate {A = ℕ} 2048 0))

pub passed_page-requires-2-clause-plain_asks : goal.passed_page-requires-2-clause-plain_asks
passed_page-requires-2-clause-plain_asks c =
    let a = c.args in
    plain_checked a.cells.now a.tracks a.theme.now a.way a.bookmark a.columns.now a.shifts.now c.check_plain.ensures c.in_ok-check_plain.was

pub passed_page-requires-2-clause-leaves : goal.passed_page-requires-2-clause-leaves
passed_page-requires-2-clause-leaves c =
    let a = c.args in
    let k = plain_checked a.cells.now a.tracks a.theme.now a.way a.bookmark a.columns.now a.shifts.now
    c.check_plain.ensures c.in_ok-check_plain.was in
    leaves k.accepted c.goes_along.ensures c.if-goes_along.false
    (omega (arith, cells_most k.accepted, length-replicate {A = ℕ} most_cells 0))
