-- `explaining::intervals::Sieve::first_lacking` meets its contract. The invariant: of the intervals gone through, the one found
-- is the first that is lacking.
use Rattle.std.proofs.Common.{◌+◌, ◌≤◌, length}
use Rattle.explaining.proofs.Sifting.{Sifting}
use Rattle.explaining.proofs.intervals.Sieve.first_lacking.Given as goal

abbrev pub invariant-loop-i : goal.invariant-loop-i
invariant-loop-i l = record {
  sifting : Sifting l.self.theme.now l.self.sets.now l.self.numbers.now l.i l.found;
  within : l.i + 1 ≤ length l.self.theme.now;
}
