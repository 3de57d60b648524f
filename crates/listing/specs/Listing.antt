-- What the call promises, of every input and every lent buffer: the whole output, or that the buffer is too short for some
-- input (`Lists`). Assumes nothing.
use Rattle.std.specs.Prelude.{◌≡◌, cond, List, ℕ, ltb, length, Result, Ok, Err}
use Rattle.theory.specs.Lists.{over}
use Rattle.telling.specs.Limits.{room}
use Rattle.listing.specs.declared.output.TooShort.{TooShort}
use Rattle.listing.specs.Answer.{output}

pub record Lists (input out : List ℕ) (answer : Result ℕ TooShort) (out' : List ℕ) : Type 0 where
  pub answers : answer ≡ cond (ltb (length out) room) (Err (record {})) (Ok (length (output input)))
  pub writes : out' ≡ cond (ltb (length out) room) out (over out (output input))
