-- `preparing::sets::fill` meets its contract: the class sets that are gathered are those of the score. Where one of them is 0
-- they are turned to what is carried, elsewhere each to the next, which is the same.
use mathlib.Core.Path.{sym, ◌∙◌}
use Rattle.preparing.proofs.Carrying.{full_carried}
use Rattle.preparing.proofs.Filling.{turned_sets}
use Rattle.preparing.proofs.sets.fill.Goals as goal

pub returns-then-any_empty : goal.returns-then-any_empty
returns-then-any_empty c = let at_turn = c in
    let at-carry = at_turn in
    let at-gather = at-carry in
    turned_sets _ at-gather.gather-first.ensures at-carry.carry-later.ensures at_turn.turn_to.ensures

pub returns-else-any_empty : goal.returns-else-any_empty
returns-else-any_empty c = let at_turn = c in
    let at-else = at_turn in
    let at_test = at-else in
    let at-gather = at_test in
    let none = sym at_test.any_empty.ensures ∙ at-else.if-any_empty.false in
    turned_sets _ at-gather.gather-first.ensures (full_carried _ none) at_turn.turn.ensures
