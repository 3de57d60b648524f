-- `telling::calls::refuse` meets its contract: the line has room in every buffer that is not too short.
use borrow.Author.Rules.{rules}
use native.Mathlib.Omega.{arith}
use Rattle.telling.proofs.Widths.{refused_le}
use Rattle.telling.proofs.Tellings.{tells_short, tells_told}
use Rattle.telling.proofs.calls.refuse.Goals as goal

pub returns-then-out-lt-ROOM : goal.returns-then-out-lt-ROOM
returns-then-out-lt-ROOM c = tells_short _ _ (omega arith)

pub refused_line-requires : goal.refused_line-requires
refused_line-requires c = let few = refused_le c.args.line (omega arith) in omega arith

pub returns : goal.returns
returns c =
    let few = refused_le c.args.line (omega arith) in
    let p = c.refused_line.ensures in
    tells_told _ _ (omega arith) (omega arith) (search rules)
