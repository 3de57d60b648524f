-- `occurring::question::by_page` meets its contract: a page of one place has a pair exactly where the list has one.
use mathlib.Core.Path.{refl}
use mathlib.Core.List.{[], ◌∷◌}
use lib.IntN.{pos}
use Rattle.std.proofs.lemmas.Result.{err_from_is_err_and}
use Rattle.paging.specs.Lent.{Room, lent}
use Rattle.occurring.proofs.OnePlace.{page_told, page_refused}
use Rattle.occurring.proofs.question.by_page.Goals as goal

-- the two buffers have one place each
one_place : Room 1 (lent (0 ∷ []) (pos 0 ∷ []))
one_place = record { of_columns = refl; of_shifts = refl }

pub returns-in_err-t : goal.returns-in_err-t
returns-in_err-t c =
    let a = c.args in
    let p = err_from_is_err_and c.from_residual.result c.from_residual.ensures.1 in
    rw (p.1, p.2) (page_refused a.cells.now a.tracks a.theme.now a.way a.sets.now a.table.now _ one_place
    c.first-first.ensures c.quick_page.ensures c.in_err-t.was)

pub returns : goal.returns
returns c =
    let a = c.args in
    page_told a.cells.now a.tracks a.theme.now a.way a.sets.now a.table.now _ one_place
    c.first-first.ensures c.quick_page.ensures c.in_ok-t.was
