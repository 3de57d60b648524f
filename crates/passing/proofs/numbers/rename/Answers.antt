-- `passing::numbers::rename` meets its contract: the next column stands under its other number, and the columns behind those that
-- were found stay.
use native.Mathlib.Omega.{arith}
use Rattle.passing.proofs.Numbering.{renamed_more, renamed_all, renamed_end}
use Rattle.passing.proofs.numbers.rename.Goals as goal

pub loop-column-preserved : goal.loop-column-preserved
loop-column-preserved c = renamed_more c.args.numbers.now _ _ c.loop-column.invariant (omega arith) c.entry_at.ensures

pub returns : goal.returns
returns c =
    renamed_end c.args.columns.now c.args.many c.args.numbers.now c.min-found.ensures
    (renamed_all c.args.numbers.now _ c.loop-column.invariant (omega arith))
