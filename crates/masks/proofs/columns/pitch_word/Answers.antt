-- A turn puts the pitch of the cell in, into the lower half or the upper one, or leaves a rest out.
use native.Mathlib.Omega.{arith}
use Rattle.masks.proofs.Halves.{halves_none, value_few, put_lower, put_upper, halves_lower, halves_upper}
use Rattle.masks.proofs.Gathering.{gather_start, gather_rest, gather_pitch, gather_end}
use Rattle.masks.proofs.columns.pitch_word.Goals as goal
use Rattle.masks.proofs.columns.pitch_word.Goals.{then-cell-lt64, else-cell-lt64+then-cell-lt128, else-cell-lt64+else-cell-lt128}

pub loop-cell-init : goal.loop-cell-init
loop-cell-init c = (rw (value_few 0) (gather_start _), halves_none)

pub loop-cell-preserved : goal.loop-cell-preserved
loop-cell-preserved c =
    let b = c.bit_of-bit.ensures in
    let t = c.loop-cell-test.true in
    let g = c.loop-cell.invariant.0 in
    let h = c.loop-cell.invariant.1 in
    elim c.if-cell-lt64.branch [
      | then-cell-lt64 w ↦ (
        rw (w.low-is, w.high-is, b, put_lower _ _ _ h w.if-cell-lt64.true) (gather_pitch _ g t (omega arith)),
        rw (w.low-is, w.high-is, b) (halves_lower _ _ _ h),
      )
      | else-cell-lt64+then-cell-lt128 w ↦ (
        rw (w.low-is, w.high-is, b, put_upper _ _ _ h w.if-cell-lt64.false w.if-cell-lt128.true) (gather_pitch _ g t (omega arith)),
        rw (w.low-is, w.high-is, b) (halves_upper _ _ _ h),
      )
      | else-cell-lt64+else-cell-lt128 w ↦ (rw (w.low-is, w.high-is) (gather_rest _ g t (omega arith)), rw (w.low-is, w.high-is) h)
    ]

pub returns : goal.returns
returns c = gather_end _ c.loop-cell.invariant.0 c.loop-cell-test.false
