-- `written::words::words_of` meets its contract. Assumes nothing.
use native.Mathlib.Omega.{arith}
use Rattle.theory.proofs.Masks.{one_shl}
use Rattle.filter.specs.Limits.{word_bits}
use Rattle.written.proofs.Cells.{made_start, made_more, made_end}
use Rattle.written.proofs.words.words_of.Goals as goal

pub loop-i-init : goal.loop-i-init
loop-i-init c = made_start word_bits _

pub loop-i-preserved : goal.loop-i-preserved
loop-i-preserved c =
    let a = c.loop-i in
    let i = a.i in
    made_more word_bits _ a.invariant (omega arith) (omega (arith, c.type_inv.theme i)) (rw (one_shl i 32 (omega arith)))

pub returns : goal.returns
returns c = let a = c.loop-i in made_end a.invariant (omega arith)
