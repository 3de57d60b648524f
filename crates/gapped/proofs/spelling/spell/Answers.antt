-- `crate::spelling::spell` meets its contract: a byte that is written has its digit, and those before it keep theirs.
use Rattle.std.proofs.Common.{◌/◌, ◌%◌, ◌^◌, length, slice_index}
use mathlib.Core.Path.{refl}
use native.Mathlib.Omega.{arith}
use Rattle.gapped.proofs.Digits.{next_rest, spelt_more}
use Rattle.gapped.proofs.spelling.spell.Goals as goal

pub loop-cell-preserved : goal.loop-cell-preserved
loop-cell-preserved c = (
  next_rest c.args.x (length c.args.alphabet.now) c.loop-cell.cell-index c.loop-cell.rest c.loop-cell.invariant.0,
  spelt_more c.loop-cell.cell-items (λ j. slice_index c.args.alphabet.now (c.args.x / length c.args.alphabet.now ^ j % length c.args.alphabet.now)) c.loop-cell.cell-index _ (omega (arith, c.loop-cell-test.true, c.loop-cell.auto.cell-items)) (rw c.loop-cell.invariant.0 refl) c.loop-cell.invariant.1,
)
