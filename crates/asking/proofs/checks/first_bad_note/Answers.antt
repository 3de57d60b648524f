-- `asking::checks::first_bad_note` meets its contract: the position is that of the first bad note.
use mathlib.Core.Path.{◌∙◌}
use Rattle.std.proofs.Common.{rules}
use Rattle.std.proofs.lemmas.Iterator.{YieldsList-from_slice}
use Rattle.theory.proofs.Chains.{first_from_position}
use Rattle.asking.specs.Refusals.{bad_note}
use Rattle.asking.proofs.checks.first_bad_note.Goals as goal

pub returns : goal.returns
returns c = c.unwrap_or.ensures ∙ first_from_position bad_note _ _ _ c.position.ensures.ran (YieldsList-from_slice c.args.theme.now cc) (λ x b h k. search rules)
