-- `passing::numbers::rank` meets its contract: the position is that of the first number that is not below.
use mathlib.Core.Path.{◌∙◌}
use Rattle.std.proofs.Common.{rules}
use Rattle.std.proofs.lemmas.Iterator.{YieldsList-from_slice}
use Rattle.theory.proofs.Chains.{first_from_position}
use Rattle.passing.proofs.Numbering.{reaches}
use Rattle.passing.proofs.numbers.rank.Goals as goal

pub returns : goal.returns
returns c =
    c.unwrap_or.ensures
    ∙ first_from_position (reaches c.args.number) _ _ _ c.position.ensures.ran (YieldsList-from_slice c.args.numbers.now cc)
    (λ x b h k. search rules)
