-- `passing::taking::take_each` meets its contract. The invariant: the columns with a pitch that were passed are copied, and their
-- numbers.
use Rattle.passing.proofs.Copied.{Taking}
use Rattle.passing.proofs.taking.take_each.Given as goal

abbrev pub invariant-loop-k : goal.invariant-loop-k
invariant-loop-k l = Taking l.cells l.tracks l.initial.kept l.initial.numbers l.k l.left l.q l.at l.kept l.numbers
