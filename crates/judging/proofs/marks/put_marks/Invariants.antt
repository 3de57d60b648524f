-- The invariant: each place that the loop has passed has its mark.
use Rattle.std.proofs.Common.{◌≡◌, ◌+◌, ◌<◌, ℕ, IfSome, slice_get}
use Rattle.judging.proofs.marks.put_marks.Given as goal

abbrev pub invariant-loop-i : goal.invariant-loop-i
invariant-loop-i g l = (j : ℕ) → j < l.i → IfSome (slice_get l.x-items j) (λ x. x ≡ g.T.Mark.mark_of (l.start + j))
