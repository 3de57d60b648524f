-- `walking::calls::walk_plain` meets its contract: the checks turn away, or every column is walked along as was asked.
use Rattle.std.proofs.lemmas.Result.{err_from_is_err_and}
use Rattle.asking.proofs.Rows.{plain_clear}
use Rattle.walking.proofs.Answers.{finds_away, finds_done, plain_asks}
use Rattle.walking.proofs.calls.walk_plain.Goals as goal

pub returns-in_err-check_plain : goal.returns-in_err-check_plain
returns-in_err-check_plain c =
    let p = err_from_is_err_and c.from_residual.result c.from_residual.ensures.1 in
    rw (p.1, p.2) (finds_away _ _ _ _ _ _ _ _ c.check_plain.ensures c.in_err-check_plain.was)

pub walk_every-requires : goal.walk_every-requires
walk_every-requires c =
    let a = c.args in
    plain_asks a.cells.now a.tracks a.theme.now a.way a.bookmark a.columns.now a.shifts.now c.check_plain.ensures c.in_ok-check_plain.was

pub returns : goal.returns
returns c =
    let a = c.args in
    let q = plain_asks a.cells.now a.tracks a.theme.now a.way a.bookmark a.columns.now a.shifts.now c.check_plain.ensures c.in_ok-check_plain.was in
    finds_done _ _ _ _ _ _ _ _ ((plain_clear _ _ _ _ _ _ _).0 q) c.walk_every.ensures
