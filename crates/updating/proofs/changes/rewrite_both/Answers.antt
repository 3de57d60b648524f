-- `updating::changes::rewrite_both` meets its contract: the two sets that rest on the column are rewritten.
use mathlib.Core.Path.{sym, ◌∙◌}
use Rattle.updating.proofs.Updated.{renewable}
use Rattle.updating.proofs.Rewriting.{renewed_both}
use Rattle.updating.proofs.changes.rewrite_both.Goals as goal

pub returns : goal.returns
returns c =
    let a = c.args in
    let many = c.columns_in-n.ensures in
    let long = (renewable a.cells.now a.tracks a.column a.sets.now c.requires).long ∙ sym many in
    renewed_both a.cells.now a.tracks _ a.column a.sets.now many long c.rewrite.ensures c.heard_before.ensures c.rewrite-2.ensures
