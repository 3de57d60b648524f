-- `reading::lines::chord_lines` meets its contract: what the invariant says behind a line, at a faulty one, and at the end of the
-- text.
use mathlib.Core.Path.{◌≡◌}
use native.Mathlib.Omega.{arith}
use Rattle.std.proofs.lemmas.Result.{err_from_is_err_and}
use Rattle.reading.specs.declared.lines.FaultyAfter.{FaultyAfter}
use Rattle.reading.proofs.Scoring.{scoring_end, scoring_bad, scoring_more}
use Rattle.reading.proofs.lines.chord_lines.Goals as goal

pub returns-in_err-line : goal.returns-in_err-line
returns-in_err-line c =
    let none = c.in_err-line.ensures.ok_part in
    let p = err_from_is_err_and c.from_residual.result c.from_residual.ensures.1 in
    let after : ◌≡◌ {A = FaultyAfter} c.in_err-line.field-0.0 (record { 0 = c.loop-at.columns })
    = let v = rw none at c.in_err-line.ensures.value in cc in
    rw (p.1, p.2, after)
    (scoring_bad _ _ _ c.loop-at.invariant c.loop-at-test.true (omega arith) (rw none at c.chord_line.ensures))

pub loop-at-preserved : goal.loop-at-preserved
loop-at-preserved c =
    scoring_more _ _ _ c.loop-at.invariant c.loop-at-test.true (omega arith)
    (rw c.in_ok-line.ensures.ok_part at c.chord_line.ensures)

pub returns : goal.returns
returns c = scoring_end _ _ _ c.loop-at.invariant c.loop-at-test.false
