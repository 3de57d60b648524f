-- A column more is decided: the first candidate ends the search, and where none is left the end is reached.
use mathlib.Core.Path.{◌≡◌}
use Prim.Native.Nat.{◌+◌, ◌-◌}
use native.Mathlib.Omega.{arith}
use Rattle.walking.proofs.register.Laws.{decide_start, seek_found, seek_on, seek_end}
use Rattle.walking.proofs.register.Entries.seek.Goals as goal

pub loop-at-init : goal.loop-at-init
loop-at-init c =
    let l = c.requires.lent in
    let e : c.args.first.0 + c.args.passed + c.args.m - 3 + 3 - c.args.m ≡ c.args.first.0 + c.args.passed = omega (arith, l.notes, l.from_first) in
    rw e (decide_start (omega (arith, l.some)) c.requires.filters)

pub returns-then-marks : goal.returns-then-marks
returns-then-marks c =
    let l = c.requires.lent in
    let k = c.loop-at in
    let e : k.at + 3 - c.args.m + c.args.m - 3 ≡ k.at = omega arith in
    seek_found l k.invariant (omega arith) (rw e c.taken-word.ensures) c.marks.ensures c.if-marks.true (omega arith)

pub loop-at-preserved : goal.loop-at-preserved
loop-at-preserved c =
    let l = c.requires.lent in
    let k = c.loop-at in
    let e : k.at + 3 - c.args.m + c.args.m - 3 ≡ k.at = omega arith in
    seek_on l k.invariant (omega arith) (rw e c.taken-word.ensures) c.marks.ensures c.if-marks.false (omega arith)

pub returns : goal.returns
returns c =
    let l = c.requires.lent in
    let e : c.loop-at.at + 3 - c.args.m ≡ c.args.first.0 + c.args.many = omega (arith, l.notes, l.from_first, l.some) in
    rw e at (seek_end l c.loop-at.invariant (omega (arith, l.notes, l.from_first, l.some)))
