-- By how far the word moves: past both halves, past one, or less.
use native.Mathlib.Omega.{arith}
use Rattle.masks.proofs.Shifting.{up_far, up_near, up_out}
use Rattle.masks.proofs.moving.up.Goals as goal

pub returns-else-d-lt128 : goal.returns-else-d-lt128
returns-else-d-lt128 c =
    let s = c.args in
    up_out s.w.low s.w.high s.distance.0 (record { lower = omega arith; upper = omega arith }) (omega arith)

pub returns-then-d-lt128 : goal.returns-then-d-lt128
returns-then-d-lt128 c =
    let s = c.args in
    up_far s.w.low s.w.high s.distance.0 (record { lower = omega arith; upper = omega arith }) (omega arith) (omega arith)

pub returns-then-d-lt64 : goal.returns-then-d-lt64
returns-then-d-lt64 c =
    let s = c.args in
    up_near s.w.low s.w.high s.distance.0 (record { lower = omega arith; upper = omega arith }) (omega arith)
