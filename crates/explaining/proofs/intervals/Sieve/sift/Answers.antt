-- `explaining::intervals::Sieve::sift` meets its contract: by the first interval that is lacking, if there is one.
use native.Mathlib.Omega.{arith}
use Rattle.explaining.proofs.Sifting.{had_le}
use Rattle.explaining.proofs.intervals.Sieve.sift.Goals as goal

pub overflow_add-next : goal.overflow_add-next
overflow_add-next c =
    let s = c.args.self.now in
    omega (arith, c.first_lacking-k.ensures, had_le s.theme.now s.sets.now s.numbers.now, s.sets_there.notes_few)
