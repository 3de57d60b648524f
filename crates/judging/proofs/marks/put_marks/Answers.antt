-- `judging::marks::put_marks` meets its contract: what is written ends before the places that stay.
use Rattle.std.proofs.Common.{arith}
use Rattle.std.proofs.lemmas.Slice.{drop-put_mid}
use Rattle.judging.proofs.marks.put_marks.Goals as goal

pub returns-clause-behind : goal.returns-clause-behind
returns-clause-behind g c =
    drop-put_mid c.min-start.result _ c.args.s.now _ c.args.to (omega arith) (omega arith) (omega arith)
