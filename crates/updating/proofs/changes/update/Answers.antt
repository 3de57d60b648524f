-- `updating::changes::update` meets its contract: what its check turns away it turns away, and nothing is written.
use mathlib.Core.Path.{sym, ◌∙◌}
use Rattle.std.proofs.lemmas.Result.{err_from_is_err_and}
use Rattle.updating.proofs.Updated.{updates_away}
use Rattle.updating.proofs.changes.update.Goals as goal

pub returns-in_err-check_update : goal.returns-in_err-check_update
returns-in_err-check_update c =
    let a = c.args in
    let p = err_from_is_err_and c.from_residual.result c.from_residual.ensures.1 in
    rw (p.1, p.2) (updates_away a.cells.now a.tracks a.column a.sets.now (sym c.check_update.ensures ∙ c.in_err-check_update.was))
