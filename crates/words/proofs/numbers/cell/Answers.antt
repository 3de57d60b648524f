-- `words::numbers::cell` meets its contract: a rest where one may stand, and else a number.
use mathlib.Core.Path.{sym, ◌∙◌}
use mathlib.Core.Bool.{true≢false}
use native.Mathlib.Omega.{arith}
use Rattle.words.proofs.Places.{seen, unseen, rest_none, cell_rest, cell_number}
use Rattle.words.proofs.numbers.cell.Goals as goal
use Rattle.words.proofs.numbers.cell.Goals.{else-rests-via-then-rests+else-eq, else-rests-via-else-rests}

pub returns-then-eq : goal.returns-then-eq
returns-then-eq c =
    let s = seen _ _ 45 c.get.result c.get.ensures.lookup (rw (← c.copied.ensures) (sym c.eq.ensures ∙ c.if-eq.true)) in
    cell_rest _ _ c.args.rests c.if-rests.true s.0 s.1

pub returns : goal.returns
returns c =
    cell_number _ _ c.args.rests
    (rest_none c.args.text.now c.args.at c.args.rests (λ t e.
    elim c.else-rests.branch [
      | else-rests-via-then-rests+else-eq w ↦
          unseen _ _ 45 (omega arith) w.get.result w.get.ensures.lookup (rw (← w.copied.ensures) (sym w.eq.ensures ∙ w.if-eq.false)) e
      | else-rests-via-else-rests w ↦ true≢false (sym t ∙ w.if-rests.false)
    ]))
    c.number.ensures
