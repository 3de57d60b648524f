-- The invariant: the places that the loop has passed have their digits, and the rest is what is left of the number.
use Rattle.std.proofs.Common.{ℕ, ◌≡◌, ◌<◌, ◌/◌, ◌%◌, ◌^◌, length, slice_index}
use Rattle.gapped.proofs.spelling.spell.Given as goal

abbrev pub invariant-loop-cell : goal.invariant-loop-cell
invariant-loop-cell l =
    (l.rest ≡ l.fn.x / length l.alphabet ^ l.cell-index)
    × ((j : ℕ) → j < l.cell-index → slice_index l.cell-items j ≡ slice_index l.alphabet (l.fn.x / length l.alphabet ^ j % length l.alphabet))
