-- `words::numbers::more_digits` meets its contract: one digit more, one that makes the number too large, or no digit.
use native.Mathlib.Omega.{arith}
use Rattle.words.proofs.Places.{digits_none, digits_large, digits_one}
use Rattle.words.proofs.numbers.more_digits.Goals as goal

pub returns-then-more-from : goal.returns-then-more-from
returns-then-more-from c = rw (c.from.ensures, c.from-in-Some.ensures) (digits_one _ _ _ c.in-Some.ensures (omega arith))

pub returns-else-more-from : goal.returns-else-more-from
returns-else-more-from c = digits_large _ _ _ c.in-Some.ensures (omega arith) (omega arith)

pub returns-in_default : goal.returns-in_default
returns-in_default c = digits_none _ _ _ c.in_default.ensures (omega arith)
