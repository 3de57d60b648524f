-- `updating::nearby::Columns::rewrite` meets its contract: the set is stored at its place.
use Rattle.updating.proofs.Rewriting.{rewritten_one}
use Rattle.updating.proofs.nearby.Columns.rewrite.Goals as goal

pub returns-then-k-self : goal.returns-then-k-self
returns-then-k-self c =
    let s = c.args.self.now in
    rewritten_one s.cells.now s.tracks s.n c.args.k c.args.sets.now c.if-k-gt0.true c.if-k-self.true c.set_of.ensures
