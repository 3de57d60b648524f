-- `updating::nearby::Columns::column` meets its contract: the cells that are lent on are the column's.
use Rattle.updating.proofs.Neighbours.{column_cells}
use Rattle.updating.proofs.nearby.Columns.column.Goals as goal

pub returns : goal.returns
returns c =
    let s = c.args.self.now in
    column_cells s.cells.now s.tracks s.n c.args.k c.requires.0 c.requires.1
