-- `explaining::explainer::explain` meets its contract: what is turned away is a row of the call, and otherwise the pair is
-- explained.
use Rattle.std.proofs.lemmas.Result.{err_from_is_err_and}
use Rattle.explaining.proofs.Refusing.{turned_away, passed_answer}
use Rattle.explaining.proofs.explainer.explain.Goals as goal

pub returns-in_err-check_explained : goal.returns-in_err-check_explained
returns-in_err-check_explained c =
    let a = c.args in
    let p = err_from_is_err_and c.from_residual.result c.from_residual.ensures.1 in
    rw (p.1, p.2) (turned_away a.cells.now a.tracks a.theme.now a.way a.pair a.sets.now c.check_explained.ensures
    c.in_err-check_explained.was)

pub returns : goal.returns
returns c =
    let a = c.args in
    passed_answer a.cells.now a.tracks a.theme.now a.way a.pair a.sets.now c.check_explained.ensures
    c.in_ok-check_explained.was c.explained.ensures
