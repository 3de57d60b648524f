-- `filter::register::marks` meets its contract: the lowest bit of the register shifted down is its bit `top`. Assumes nothing.
use Rattle.std.proofs.Common.{ℕ, ◌%◌, eqb, ap}
use Rattle.theory.proofs.Masks.{shr_and_one}
use Rattle.filter.specs.Limits.{word_bits}
use Rattle.filter.proofs.register.marks.Goals as goal

pub returns : goal.returns
returns c = ap (λ (n : ℕ). eqb n 0) (shr_and_one c.args.register (c.args.top % word_bits))
