-- The invariant: the words are right for the intervals passed, and the mark is the bit of the next.
use Rattle.filter.specs.Limits.{word_bits}
use Rattle.filter.proofs.Neighbours.{Neighbours, passed}
use Rattle.filter.proofs.table.IntervalWords.{Marked}
use Rattle.filter.proofs.table.interval_words.Given as goal

abbrev pub invariant-loop-notes : goal.invariant-loop-notes
invariant-loop-notes l = record {
  neighbours : Neighbours l.theme l.notes-iterator;
  marked : Marked word_bits l.theme (passed l.theme l.notes-iterator) l.mark l.words;
}
