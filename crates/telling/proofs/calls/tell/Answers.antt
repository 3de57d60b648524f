-- `telling::calls::tell` meets its contract: the check turns away, or the lines of an accepted search are written.
use native.Mathlib.Omega.{arith}
use Rattle.std.proofs.lemmas.Result.{err_from_is_err_and}
use Rattle.asking.specs.Limits.{most_notes}
use Rattle.asking.specs.Asking.{Accepted}
use Rattle.telling.proofs.Searching.{lines_few}
use Rattle.telling.proofs.Tellings.{checked_accepted, tells_refused, accepted_told, tells_short, tells_told}
use Rattle.telling.proofs.calls.tell.Goals as goal

pub returns-in_err-check_request : goal.returns-in_err-check_request
returns-in_err-check_request c =
    let p = err_from_is_err_and c.from_residual.result c.from_residual.ensures.1 in
    rw (p.1, p.2) (tells_refused c.args.cells.now c.args.tracks c.args.theme.now c.args.way c.check_request.ensures c.args.out.now c.in_err-check_request.was)

pub returns-then-out-lt-ROOM : goal.returns-then-out-lt-ROOM
returns-then-out-lt-ROOM c =
    let accepted : Accepted most_notes c.args.cells.now c.args.tracks c.args.theme.now =
    checked_accepted c.args.cells.now c.args.tracks c.args.theme.now c.args.way c.check_request.ensures c.in_ok-check_request.was in
    rw (accepted_told c.args.cells.now c.args.tracks c.args.theme.now c.args.way c.args.out.now accepted) (tells_short _ _ (omega arith))

pub search_lines-requires : goal.search_lines-requires
search_lines-requires c =
    record {
      accepted = checked_accepted c.args.cells.now c.args.tracks c.args.theme.now c.args.way c.check_request.ensures c.in_ok-check_request.was;
      room_in_bounds = omega arith;
    }

pub returns : goal.returns
returns c =
    let accepted : Accepted most_notes c.args.cells.now c.args.tracks c.args.theme.now =
    checked_accepted c.args.cells.now c.args.tracks c.args.theme.now c.args.way c.check_request.ensures c.in_ok-check_request.was in
    rw (accepted_told c.args.cells.now c.args.tracks c.args.theme.now c.args.way c.args.out.now accepted)
    (tells_told _ _ (lines_few c.args.cells.now c.args.tracks c.args.theme.now accepted c.args.way) (omega arith) c.search_lines.ensures)
