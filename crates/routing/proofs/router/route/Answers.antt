-- `routing::router::route` meets its contract: what is turned away is a row of the call, and otherwise the route is written.
use mathlib.Core.Path.{ap}
use mathlib.Core.Bool.{not}
use Rattle.std.proofs.lemmas.Result.{err_from_is_err_and}
use Rattle.routing.proofs.RouteAnswers.{answer_away, answer_short, accepted, route_asked, answer_routed}
use Rattle.routing.proofs.router.route.Goals as goal

pub returns-in_err-check_request : goal.returns-in_err-check_request
returns-in_err-check_request c =
    let a = c.args in
    let p = err_from_is_err_and c.from_residual.result c.from_residual.ensures.1 in
    rw (p.1, p.2) (answer_away a.cells.now a.tracks a.theme.now a.way a.pair a.route.now c.check_request.ensures
    c.in_err-check_request.was)

pub returns-then-route-m : goal.returns-then-route-m
returns-then-route-m c =
    let a = c.args in
    rw c.new-then-route-m.ensures (answer_short a.cells.now a.tracks a.theme.now a.way a.pair a.route.now
    c.check_request.ensures c.in_ok-check_request.was c.held_at.ensures (ap not c.if-not-held_at.false) c.if-route-m.true)

pub invariant_of-tune : goal.invariant_of-tune
invariant_of-tune c =
    let a = c.args in
    let passed = accepted a.cells.now a.tracks a.theme.now a.way a.pair a.route.now c.check_request.ensures c.in_ok-check_request.was in
    record { tracks_few = passed.tracks_few; notes_few = passed.notes_few }

pub invariant_of-notes : goal.invariant_of-notes
invariant_of-notes c =
    let a = c.args in
    let asked = route_asked a.cells.now a.tracks a.theme.now a.way a.pair a.route.now
    c.check_request.ensures c.in_ok-check_request.was c.held_at.ensures (ap not c.if-not-held_at.false) c.if-route-m.false in
    record { tracks_there = asked.0 }

pub write_route-requires : goal.write_route-requires
write_route-requires c =
    let a = c.args in
    let asked = route_asked a.cells.now a.tracks a.theme.now a.way a.pair a.route.now
    c.check_request.ensures c.in_ok-check_request.was c.held_at.ensures (ap not c.if-not-held_at.false) c.if-route-m.false in
    asked.1

pub returns : goal.returns
returns c =
    let a = c.args in
    answer_routed a.cells.now a.tracks a.theme.now a.way a.pair a.route.now
    c.check_request.ensures c.in_ok-check_request.was c.held_at.ensures (ap not c.if-not-held_at.false) c.if-route-m.false c.write_route.ensures
