-- The invariant: each place that the loop has passed has the byte that is said of it.
use Rattle.std.proofs.Common.{ℕ, ◌<◌, slice_index}
use Rattle.jobs.proofs.buffers.fill_by.Given as goal

abbrev pub invariant-loop-i : goal.invariant-loop-i
invariant-loop-i g l = (j : ℕ) → j < l.i → goal.F-post g l.byte_at j (slice_index l.x-items j)
