-- The invariant: the words have their zeros for the first i notes (`Made`).
use Rattle.filter.specs.Limits.{word_bits}
use Rattle.written.proofs.Cells.{Made}
use Rattle.written.proofs.words.words_of.Given as goal

abbrev pub invariant-loop-i : goal.invariant-loop-i
invariant-loop-i l = Made word_bits l.theme l.i l.words
