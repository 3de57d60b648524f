-- `telling::writing::Out::put_number` meets its contract: a number of one digit is that digit, a longer one is the number before
-- its last digit, and that digit.
use mathlib.Core.Path.{◌∙◌}
use native.Mathlib.Omega.{arith}
use Rattle.telling.proofs.Decimals.{small_room, small_wrote, first_room, last_room, more_wrote}
use Rattle.telling.proofs.writing.Out.+put_number.Goals as goal

pub put_digit-requires : goal.put_digit-requires
put_digit-requires t c = small_room c.args.n c.args.self.now.at c.args.self.now.bytes.now (omega arith) c.requires

pub returns-then-n-lt10 : goal.returns-then-n-lt10
returns-then-n-lt10 t c =
    let p = c.put_digit.ensures in
    record { wrote = small_wrote _ _ _ (omega arith) p.wrote; same_output = p.same_output }

pub put_number-requires : goal.put_number-requires
put_number-requires t c = (omega arith, first_room c.args.n c.args.self.now.at c.args.self.now.bytes.now (omega arith) (omega arith) c.requires)

pub put_digit-requires-2 : goal.put_digit-requires-2
put_digit-requires-2 t c =
    last_room c.args.n c.args.self.now.at c.args.self.now.bytes.now (omega arith) (omega arith) c.requires c.put_number.ensures.wrote

pub returns : goal.returns
returns t c =
    let p = c.put_number.ensures in
    let q = c.put_digit-2.ensures in
    record { wrote = more_wrote _ _ _ (omega arith) (omega arith) p.wrote q.wrote; same_output = q.same_output ∙ p.same_output }
