-- `words::numbers::number` meets its contract: no digit, or one digit and then two more where they stand.
use native.Mathlib.Omega.{arith}
use Rattle.words.proofs.Places.{number_bad, number_more}
use Rattle.words.proofs.numbers.number.Goals as goal

pub returns-in_err-digit : goal.returns-in_err-digit
returns-in_err-digit c = rw c.from_residual.ensures (number_bad _ _ c.in_err-digit.ensures)

pub returns : goal.returns
returns c = number_more _ _ c.in_ok-digit.ensures (omega arith) c.more_digits-two.ensures c.more_digits.ensures
