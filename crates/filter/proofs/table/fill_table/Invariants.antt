-- The invariant: each entry of the pairs from `half` on is right.
use Rattle.std.proofs.Common.{◌*◌}
use Rattle.filter.specs.Limits.{word_bits}
use Rattle.filter.specs.Table.{word}
use Rattle.filter.proofs.table.Downward.{RightFrom}
use Rattle.filter.proofs.table.fill_table.Given as goal

abbrev pub invariant-loop-half : goal.invariant-loop-half
invariant-loop-half l = RightFrom (word word_bits l.theme) l.table (2 * l.half)
