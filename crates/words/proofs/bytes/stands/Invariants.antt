-- The invariant: the word begins at the place exactly where what is left of it begins at what is left of the text.
use Rattle.words.proofs.Standing.{Standing}
use Rattle.words.proofs.bytes.stands.Given as goal

abbrev pub invariant-loop-letter : goal.invariant-loop-letter
invariant-loop-letter l = Standing l.text l.from l.word l.at l.letter-index
