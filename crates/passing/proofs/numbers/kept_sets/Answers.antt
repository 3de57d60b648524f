-- `passing::numbers::kept_sets` meets its contract: the entry at the next number stands at the next place, which is within both.
use native.Mathlib.Omega.{arith}
use Rattle.passing.proofs.Numbering.{kept_more}
use Rattle.passing.proofs.numbers.kept_sets.Goals as goal

pub loop-i-preserved : goal.loop-i-preserved
loop-i-preserved c =
    kept_more c.args.sets.now c.args.numbers.now _ _ c.loop-i.invariant (omega (arith, c.min-i-end.ensures))
    (omega (arith, c.min-i-end.ensures)) c.entry_at.ensures
