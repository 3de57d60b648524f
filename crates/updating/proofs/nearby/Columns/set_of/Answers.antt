-- `updating::nearby::Columns::set_of` meets its contract: the set of the column's cells and of those of the next with a pitch, if
-- one follows.
use Rattle.updating.proofs.Rewriting.{set_none_follows, set_follows}
use Rattle.updating.proofs.nearby.Columns.set_of.Goals as goal

pub returns-then-self-next : goal.returns-then-self-next
returns-then-self-next c =
    let s = c.args.self.now in
    set_none_follows s.cells.now s.tracks s.n c.args.k c.requires.0 c.requires.1 c.heard_after-next.ensures c.if-self-next.true

pub returns : goal.returns
returns c =
    let s = c.args.self.now in
    set_follows s.cells.now s.tracks s.n c.args.k c.requires.0 c.requires.1 c.heard_after-next.ensures c.column.ensures c.column-2.ensures
    c.set_between.ensures
