-- `reading::request::read` meets its contract: a buffer that is too short, or what was read and copied.
use native.Mathlib.Omega.{arith}
use Rattle.std.proofs.lemmas.Result.{err_from_is_err_and}
use Rattle.reading.proofs.Takings.{takes_short, takes_faulty, takes_held}
use Rattle.reading.proofs.request.read.Goals as goal

pub returns-then-theme-lt-MOST_NOTES : goal.returns-then-theme-lt-MOST_NOTES
returns-then-theme-lt-MOST_NOTES c = takes_short _ _ _ c.then-theme-lt-MOST_NOTES.either

pub returns-in_err-reading : goal.returns-in_err-reading
returns-in_err-reading c =
    let p = err_from_is_err_and c.from_residual.result c.from_residual.ensures.1 in
    rw (p.1, p.2)
    (takes_faulty c.args.input.now c.args.theme.now c.args.cells.now c.if-theme-lt-MOST_NOTES.false
    c.if-cells-lt-MOST_CELLS.false _
    c.in_err-reading.ensures)

pub returns : goal.returns
returns c =
    takes_held c.args.input.now c.args.theme.now c.args.cells.now c.if-theme-lt-MOST_NOTES.false c.if-cells-lt-MOST_CELLS.false
    c.in_ok-reading.ensures (omega arith) (omega arith) c.copy_from_slice.ensures.after
    c.copy_from_slice-2.ensures.after
