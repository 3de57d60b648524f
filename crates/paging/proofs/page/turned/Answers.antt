-- `paging::page::turned` meets its contract: a page with room left is finished, and another goes on after its last pair.
-- Assumes nothing.
use native.Mathlib.Omega.{arith}
use Rattle.paging.proofs.page.Laws.{full}
use Rattle.paging.proofs.page.turned.Goals as goal

pub overflow_sub-last : goal.overflow_sub-last
overflow_sub-last c = let filled = full c.room_left.ensures c.if-room_left.false in omega (arith, filled.some)

pub bounds-columns-room : goal.bounds-columns-room
bounds-columns-room c = let filled = full c.room_left.ensures c.if-room_left.false in omega (arith, filled.some)

pub overflow_sub-last-2 : goal.overflow_sub-last-2
overflow_sub-last-2 c = let filled = full c.room_left.ensures c.if-room_left.false in omega (arith, filled.some)

pub bounds-shifts-room : goal.bounds-shifts-room
bounds-shifts-room c = let filled = full c.room_left.ensures c.if-room_left.false in omega (arith, filled.some, filled.both)
