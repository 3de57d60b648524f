-- `telling::writing::Out::hit_lines` meets its contract: there is room for each line, and it is one of those to come.
use mathlib.Core.Path.{refl, sym, ◌∙◌}
use borrow.Author.Rules.{rules}
use Rattle.std.proofs.lemmas.Iterator.{empty_from_Zip}
use Rattle.telling.proofs.Hitting.{read_room, read_wrote, hitting_start, hitting_room, hitting_more, hitting_end}
use Rattle.telling.proofs.writing.Out.hit_lines.Goals as goal

pub loop-column-init : goal.loop-column-init
loop-column-init c =
    (hitting_start c.requires.found_in_bounds.0 c.requires.found_in_bounds.1 c.requires.shifts_in_bounds (search rules) (search rules), refl)

pub hit_line-requires : goal.hit_line-requires
hit_line-requires c =
    let e = c.in-Some.ensures.steps in
    read_room c.in-Some.field-0-0.now _ (search rules) c.loop-column.self.at c.loop-column.self.bytes.now (hitting_room c.loop-column.invariant.0 e.0 e.1)

pub loop-column-preserved : goal.loop-column-preserved
loop-column-preserved c =
    let e = c.in-Some.ensures.steps in
    let p = c.hit_line.ensures in
    (hitting_more c.loop-column.invariant.0 e.0 e.1 (read_wrote c.in-Some.field-0-0.now _ (search rules) p.wrote), p.same_output ∙ c.loop-column.invariant.1)

pub returns : goal.returns
returns c =
    let spent = empty_from_Zip _ c.next.new.self _ c.in-None.is c.next.ensures.steps (sym c.loop-column.invariant.0.same) in
    record { wrote = hitting_end c.loop-column.invariant.0 spent.0; same_output = c.loop-column.invariant.1 }
