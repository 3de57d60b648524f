-- `telling::writing::Out::put_number` meets its contract. The measure is the number: what stands before its last digit is less.
use Rattle.telling.proofs.writing.Out.+put_number.Given as goal

abbrev pub decreases-put_number : goal.decreases-put_number
decreases-put_number l = l.n
