-- `holding::held::has_pitch` meets its contract: a cell is the pitch.
use Rattle.std.proofs.Common.{◌∙◌, rules}
use borrow.Author.Tests.{tests}
use lib.Dec.{eqb}
use Rattle.std.proofs.lemmas.Iterator.{YieldsList-from_slice}
use Rattle.std.proofs.lemmas.Iterator.Search.{any_from_yields_List}
use Rattle.holding.proofs.held.Seeking.{some_cell, same_cell}
use Rattle.holding.proofs.held.has_pitch.Goals as goal

pub returns : goal.returns
returns c =
    any_from_yields_List (λ cell. eqb cell c.args.p.0) _ _ _ c.any.ensures.ran
    (YieldsList-from_slice c.args.column.now cc) (λ x b q k. search (rules, tests))
    ∙ some_cell _ _ (same_cell c.args.p.0 c.requires) c.args.column.now
