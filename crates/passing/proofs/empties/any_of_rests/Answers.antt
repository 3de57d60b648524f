-- `passing::empties::any_of_rests` meets its contract: four columns are left, and none of them is empty, since none begins with
-- two rests or each was asked; or one is found.
use mathlib.Core.Path.{refl, sym, ◌∙◌}
use Rattle.passing.proofs.Looking.{left_found, left_passed, fours_none}
use Rattle.passing.proofs.empties.any_of_rests.Goals as goal
use Rattle.passing.proofs.empties.any_of_rests.Goals.{else-four_begin-via-then-four_begin+else-any_from, else-four_begin-via-else-four_begin}

pub returns-then-any_from : goal.returns-then-any_from
returns-then-any_from c = left_found _ _ c.loop-tracks.invariant 4 c.if-left-gt3.true c.any_from.ensures c.if-any_from.true

pub loop-tracks-preserved : goal.loop-tracks-preserved
loop-tracks-preserved c =
    left_passed
    _
    _
    c.loop-tracks.invariant
    4
    c.if-left-gt3.true
    (elim c.else-four_begin.branch [
      | else-four_begin-via-then-four_begin+else-any_from w ↦ sym w.if-any_from.false ∙ w.any_from.ensures
      | else-four_begin-via-else-four_begin w ↦ fours_none _ _ c.loop-tracks.invariant c.loop-tracks-test.true c.if-left-gt3.true c.four_begin.ensures w.if-four_begin.false
    ])
    refl
