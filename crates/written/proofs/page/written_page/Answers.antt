-- `written::page::written_page` meets its contract: it is turned away, or what was listed is the page. Assumes nothing.
use Rattle.std.proofs.lemmas.Result.{err_from_is_err_and}
use Rattle.written.proofs.Paged.{checked, written_away, written_turns}
use Rattle.written.proofs.page.written_page.Goals as goal

pub returns-in_err-check_plain : goal.returns-in_err-check_plain
returns-in_err-check_plain c =
    let a = c.args in
    let p = err_from_is_err_and c.from_residual.result c.from_residual.ensures.1 in
    rw (p.1, p.2) (written_away a.cells.now a.tracks a.theme.now a.bookmark a.columns.now a.shifts.now c.check_plain.ensures c.in_err-check_plain.was)

pub list-found-requires : goal.list-found-requires
list-found-requires c =
    let a = c.args in
    checked a.cells.now a.tracks a.theme.now a.bookmark a.columns.now a.shifts.now c.check_plain.ensures c.in_ok-check_plain.was

pub returns : goal.returns
returns c =
    let a = c.args in
    written_turns a.cells.now a.tracks a.theme.now a.bookmark a.columns.now a.shifts.now
    (checked a.cells.now a.tracks a.theme.now a.bookmark a.columns.now a.shifts.now c.check_plain.ensures c.in_ok-check_plain.was) c.list-found.ensures
    c.columns_in.ensures c.answer.ensures
