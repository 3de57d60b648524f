-- The invariant: the word is that of the first i cells. The measure is the cells left.
use mathlib.Core.Path.{◌≡◌}
use mathlib.Core.List.{List}
use Prim.Native.Nat.{ℕ, ◌-◌, ◌≤◌}
use lib.ListN.{length, take}
use Rattle.filter.specs.Limits.{word_bits}
use Rattle.written.specs.Words.{cells_word, Words}
use Rattle.written.proofs.words.column_word.Given as goal

abbrev pub invariant-loop-i : goal.invariant-loop-i
invariant-loop-i l = ((theme : List ℕ) → Words theme l.words → l.word ≡ cells_word word_bits theme (take l.i l.column)) × (l.i ≤ length l.column)

abbrev pub decreases-loop-i : goal.decreases-loop-i
decreases-loop-i l = length l.column - l.i
