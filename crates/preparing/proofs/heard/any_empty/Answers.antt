-- `preparing::heard::any_empty` meets its contract: the fold says whether some class set is that of an empty column.
use Rattle.std.proofs.Common.{rules}
use Rattle.std.proofs.lemmas.Iterator.{YieldsList-from_slice}
use Rattle.theory.proofs.Chains.{some_from_fold}
use Rattle.preparing.specs.Classes.{is_empty}
use Rattle.preparing.proofs.heard.any_empty.Goals as goal

pub returns : goal.returns
returns c = some_from_fold is_empty _ _ c.fold.ensures.ran (YieldsList-from_slice c.args.others.now cc) (λ a x b h k. search rules)
