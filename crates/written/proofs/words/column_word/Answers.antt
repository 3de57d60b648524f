-- `written::words::column_word` meets its contract. Assumes nothing.
use native.Mathlib.Omega.{arith}
use Prim.Native.Nat.{◌+◌}
use Rattle.written.proofs.Cells.{looked_two, looked_last, looked_end}
use Rattle.written.proofs.words.column_word.Goals as goal

pub loop-i-preserved : goal.loop-i-preserved
loop-i-preserved c =
    let a = c.loop-i in (
      λ theme t. looked_two t c.args.column.now a.i (a.invariant.0 theme t) (omega arith) (omega (arith, c.type_inv.column a.i))
          (omega (arith, c.type_inv.column (a.i + 1))),
      omega arith,
    )

pub returns-then-i-last : goal.returns-then-i-last
returns-then-i-last c =
    let a = c.loop-i in
    λ theme t. looked_last t c.args.column.now a.i (a.invariant.0 theme t) (omega arith) (omega (arith, c.type_inv.column a.i))

pub returns : goal.returns
returns c =
    let a = c.loop-i in
    λ theme t. looked_end t c.args.column.now {i = a.i} (a.invariant.0 theme t) (omega arith)
