-- `search::along::moved_page` meets its contract: a walk that is turned away, or the answer that is read off the buffers of one
-- that is done.
use mathlib.Core.Path.{ap}
use Rattle.std.specs.Prelude.{Ok}
use Rattle.std.proofs.lemmas.Result.{err_from_is_err_and}
use Rattle.search.proofs.along.Calls.{plain_away, plain_turns}
use Rattle.search.proofs.along.moved_page.Goals as goal

pub returns-in_err-w : goal.returns-in_err-w
returns-in_err-w c =
    let p = err_from_is_err_and c.from_residual.result c.from_residual.ensures.1 in
    rw (p.1, p.2) (plain_away _ _ _ _ _ _ _ c.in_err-w.ensures)

pub returns : goal.returns
returns c = plain_turns _ _ _ _ _ _ _ c.in_ok-w.ensures c.columns_in.ensures (ap Ok c.turn_of.ensures)
