-- `written::walk::list_from` meets its contract. Assumes nothing.
use native.Mathlib.Omega.{arith}
use mathlib.Core.Path.{◌≡◌, refl, sym, ◌∙◌}
use Prim.Native.Nat.{◌+◌, ◌≤◌, ◌<◌}
use lib.ListN.{length}
use borrow.Author.Tests.{eqb-true, eqb-false}
use Rattle.score.specs.Score.{columns_in}
use Rattle.written.proofs.Listing.{along_start, column_part, along_columns, along_end, along_full, hit_fits, along_hit, along_miss}
use Rattle.written.proofs.walk.list_from.Goals as goal
use Rattle.written.proofs.walk.list_from.Goals.{then-marks+else-found-columns, else-marks}

pub returns-then-is_empty : goal.returns-then-is_empty
returns-then-is_empty c =
    let none : length c.args.columns.now ≡ 0 = eqb-true _ 0 (sym c.is_empty.ensures ∙ c.if-is_empty.true) in
    along_full c.requires.walkable (along_start c.requires.walkable) (sym none)

pub loop-k-init : goal.loop-k-init
loop-k-init c =
    let some : ¬ (length c.args.columns.now ≡ 0) = eqb-false _ 0 (sym c.is_empty.ensures ∙ c.if-is_empty.false) in
    (along_start c.requires.walkable, omega (arith, some))

pub taken-register-requires : goal.taken-register-requires
taken-register-requires c =
    let more : c.loop-k.k < columns_in c.args.cells.now c.args.h = omega (arith, c.columns_in-n.ensures) in
    (column_part c.requires.walkable more, c.requires.walkable.tracks)

pub overflow_sub-columns : goal.overflow_sub-columns
overflow_sub-columns c =
    let more : c.loop-k.k < columns_in c.args.cells.now c.args.h = omega (arith, c.columns_in-n.ensures) in
    let fits : length c.args.theme.now + c.args.from ≤ c.loop-k.k + 1 =
    hit_fits c.requires.walkable c.loop-k.invariant.0 more (c.taken-register.ensures _ c.requires.words) c.marks.ensures c.if-marks.true in
    omega arith

pub loop-k-preserved : goal.loop-k-preserved
loop-k-preserved c =
    let more : c.loop-k.k < columns_in c.args.cells.now c.args.h = omega (arith, c.columns_in-n.ensures) in
    elim c.if-marks.branch [
      | then-marks+else-found-columns w ↦
          let hit = along_hit c.requires.walkable c.loop-k.invariant.0 more (c.taken-register.ensures _ c.requires.words) c.marks.ensures w.if-marks.true c.loop-k.invariant.1 refl in
          rw (w.columns-is, w.shifts-is, w.found-is) (hit, omega (arith, along_columns c.requires.walkable hit, w.if-found-columns.false, hit.few))
      | else-marks w ↦ rw (w.columns-is, w.shifts-is, w.found-is)
          (along_miss c.requires.walkable c.loop-k.invariant.0 more (c.taken-register.ensures _ c.requires.words) c.marks.ensures w.if-marks.false, c.loop-k.invariant.1)
    ]

pub returns-after-loop-k : goal.returns-after-loop-k
returns-after-loop-k c = along_end c.requires.walkable c.loop-k.invariant.0 (omega (arith, c.columns_in-n.ensures))

-- the break behind the last pair that has room
pub returns-then-found-columns : goal.returns-then-found-columns
returns-then-found-columns c =
    let more : c.loop-k.k < columns_in c.args.cells.now c.args.h = omega (arith, c.columns_in-n.ensures) in
    let hit = along_hit c.requires.walkable c.loop-k.invariant.0 more (c.taken-register.ensures _ c.requires.words) c.marks.ensures c.if-marks.true c.loop-k.invariant.1 refl in
    along_full c.requires.walkable hit (c.if-found-columns.true ∙ along_columns c.requires.walkable hit)
