-- `routing::standing::heard_at` meets its contract: a column that is none, and one of the score.
use mathlib.Core.Path.{refl}
use mathlib.Core.Logic.{inl, inr}
use Rattle.routing.proofs.AtPair.{heard_outside, heard_inside}
use Rattle.routing.proofs.standing.heard_at.Goals as goal
use Rattle.routing.proofs.standing.heard_at.Goals.{then-j-eq0-via-then-j-eq0, then-j-eq0-via-else-j-eq0+then-columns_in-j}

pub returns-then-j-eq0 : goal.returns-then-j-eq0
returns-then-j-eq0 c =
    let a = c.args in
    elim c.then-j-eq0.branch [
      | then-j-eq0-via-then-j-eq0 w ↦ heard_outside a.tune.now.cells.now a.tune.now.tracks a.j refl (inl w.if-j-eq0.true)
      | then-j-eq0-via-else-j-eq0+then-columns_in-j w ↦
          heard_outside a.tune.now.cells.now a.tune.now.tracks a.j w.columns_in.ensures (inr (w.if-j-eq0.false, w.if-columns_in-j.true))
    ]

pub returns : goal.returns
returns c =
    let a = c.args in
    heard_inside a.tune.now.cells.now a.tune.now.tracks a.j c.columns_in.ensures (c.if-j-eq0.false, c.if-columns_in-j.false) c.is_empty.ensures
