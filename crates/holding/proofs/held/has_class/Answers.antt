-- `holding::held::has_class` meets its contract: a cell is a pitch of the class.
use Rattle.std.proofs.Common.{◌%◌, ◌∙◌, rules}
use borrow.Author.Tests.{tests}
use mathlib.Core.Path.{refl}
use mathlib.Core.Bool.{◌&&◌}
use lib.Dec.{leb, eqb}
use Rattle.std.proofs.lemmas.Iterator.{YieldsList-from_slice}
use Rattle.std.proofs.lemmas.Iterator.Search.{any_from_yields_List}
use Rattle.holding.proofs.held.Seeking.{some_cell}
use Rattle.holding.proofs.held.has_class.Goals as goal

pub returns : goal.returns
returns c =
    any_from_yields_List (λ cell. leb cell 127 && eqb (cell % 12) c.args.class.0) _ _ _ c.any.ensures.ran
    (YieldsList-from_slice c.args.column.now cc) (λ x b q k. search (rules, tests))
    ∙ some_cell _ _ (λ cell. refl) c.args.column.now
