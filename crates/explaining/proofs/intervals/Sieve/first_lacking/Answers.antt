-- `explaining::intervals::Sieve::first_lacking` meets its contract: at first no interval is gone through.
use native.Mathlib.Omega.{arith}
use Rattle.explaining.proofs.Sifting.{sifting_start}
use Rattle.explaining.proofs.intervals.Sieve.first_lacking.Goals as goal

pub loop-i-init : goal.loop-i-init
loop-i-init c = record { sifting = sifting_start _ _ _; within = omega arith }
