-- `occurring::question::without_walk` meets its contract: what is turned away is a row of the call, and otherwise there is no pair.
use mathlib.Core.Path.{sym, ap, ◌∙◌}
use mathlib.Core.Bool.{not}
use Rattle.std.proofs.lemmas.Result.{err_from_is_err_and}
use Rattle.score.specs.Refusals.{row}
use Rattle.occurring.proofs.NoWalk.{away_answers, more_answers, none_answers}
use Rattle.score.specs.declared.refusals.Rule.TheVariants as rule
use Rattle.occurring.proofs.question.without_walk.Goals as goal

pub returns-in_err-check_with_sets : goal.returns-in_err-check_with_sets
returns-in_err-check_with_sets c way =
    let a = c.args in
    let p = err_from_is_err_and c.from_residual.result c.from_residual.ensures.1 in
    rw (p.1, p.2) (away_answers a.cells.now a.tracks a.theme.now a.sets.now a.table.now (row rule.Summary (not a.right) 0) way
    (sym c.check_with_sets.ensures ∙ c.in_err-check_with_sets.was))

pub returns-then-not-right : goal.returns-then-not-right
returns-then-not-right c way =
    let a = c.args in
    rw c.new.ensures (more_answers a.cells.now a.tracks a.theme.now a.sets.now a.table.now (row rule.Summary (not a.right) 0) way
    (sym c.check_with_sets.ensures ∙ c.in_ok-check_with_sets.was) (ap not c.if-not-right.true))

pub returns : goal.returns
returns c way =
    let a = c.args in
    none_answers a.cells.now a.tracks a.theme.now a.sets.now a.table.now (row rule.Summary (not a.right) 0) way
    (sym c.check_with_sets.ensures ∙ c.in_ok-check_with_sets.was) (ap not c.if-not-right.false) (c.requires c.if-not-right.false)
    c.nowhere.ensures.value c.nowhere.ensures.table_after
