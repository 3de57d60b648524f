-- By whether a bit is there, the first note is a pitch, and both buffers have room.
use Rattle.std.proofs.Common.{◌≡◌}
use Rattle.theory.specs.Marks.{marks}
use Rattle.theory.proofs.Marks.{marks_ones}
use Prim.Native.Nat.{◌+◌}
use native.Mathlib.Omega.{arith}
use lib.Count.{ones}
use lib.ListN.{length}
use Rattle.hits.proofs.Fitting.{low_code_le}
use Rattle.hits.proofs.writing.Putting.{room_both, room_none, put_no_mark, put_no_pitch, put_no_room, put_all}
use Rattle.hits.proofs.writing.put_hits.Goals as goal

pub returns-then-low-high-eq0 : goal.returns-then-low-high-eq0
returns-then-low-high-eq0 c =
    put_no_mark _ _ c.args.first _ _ _ _ _ (record { lower = omega arith; upper = omega arith }) c.if-low-high-eq0.true

pub returns-then-first-gt-HIGHEST_PITCH : goal.returns-then-first-gt-HIGHEST_PITCH
returns-then-first-gt-HIGHEST_PITCH c =
    put_no_pitch _ _ c.args.first _ _ _ _ _ (record { lower = omega arith; upper = omega arith }) c.if-first-gt-HIGHEST_PITCH.true

pub returns-then-not-has_room : goal.returns-then-not-has_room
returns-then-not-has_room c =
    let a = c.args in
    let many = ones a.word.low + ones a.word.high in
    put_no_room _ _ a.first _ _ _ _ _ (record { lower = omega arith; upper = omega arith })
    (room_none many a.from _ _ c.min.ensures c.has_room.ensures c.if-not-has_room.true)

pub put_marked-middle-requires : goal.put_marked-middle-requires
put_marked-middle-requires c =
    let q = room_both _ _ _ _ c.min.ensures c.has_room.ensures c.if-not-has_room.false in
    (omega (arith, q.in_columns), omega (arith, q.in_shifts), omega (arith, c.low_code-code.ensures, low_code_le c.args.way c.args.first))

pub put_marked-requires : goal.put_marked-requires
put_marked-requires c =
    let a = c.args in
    let q = room_both _ _ _ _ c.min.ensures c.has_room.ensures c.if-not-has_room.false in
    let m : length (marks 64 c.low_code-code.result a.word.low) ≡ ones a.word.low = marks_ones 64 _ _ (omega arith) in
    let w = c.put_marked-middle in (
      omega (arith, q.in_columns, w.ensures.count, m),
      omega (arith, q.in_shifts, w.ensures.count, m),
      omega (arith, c.low_code-code.ensures, low_code_le a.way a.first),
    )

pub returns : goal.returns
returns c =
    let a = c.args in
    put_all _ _ a.first _ _ _ _ _ (record { lower = omega arith; upper = omega arith }) c.if-first-gt-HIGHEST_PITCH.false
    (room_both _ _ _ _ c.min.ensures c.has_room.ensures c.if-not-has_room.false) _
    c.low_code-code.ensures _ _ _ c.put_marked-middle.ensures _ _ _ c.put_marked.ensures
