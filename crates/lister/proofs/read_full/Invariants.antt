-- `lister::read_full` stays within its buffer. The invariant: what was read so far fits into it.
use Rattle.std.proofs.Common.{◌≤◌, length}
use Rattle.lister.proofs.read_full.Given as goal

abbrev pub invariant-loop : goal.invariant-loop
invariant-loop g l = l.done ≤ length l.buffer
