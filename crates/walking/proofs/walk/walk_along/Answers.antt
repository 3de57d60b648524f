-- A turn tries the column of the list that is next, and adds its looks.
use native.Mathlib.Omega.{arith}
use Rattle.walking.proofs.walk.Trying.{along_end, along_full, along_bound, along_turn}
use Rattle.walking.proofs.walk.walk_along.Goals as goal

pub overflow_add-looks : goal.overflow_add-looks
overflow_add-looks c =
    record {
      fits = along_bound _ _ _ _ _ _ _ _ _ _ _ _ c.loop-column.invariant.0 c.loop-column-test.true
          _ c.at-next.ensures
          _ _ _ _ c.try_all-t.ensures.0 _ c.requires.along.few;
    }

pub loop-column-preserved : goal.loop-column-preserved
loop-column-preserved c =
    let t = c.try_all-t.ensures in (
      along_turn _ _ _ _ _ _ _ _ _ _ _ _ c.loop-column.invariant.0 c.loop-column-test.true _ c.at-next.ensures _ _ _ _ t.0,
      t.1,
    )

pub returns-after-loop-column : goal.returns-after-loop-column
returns-after-loop-column c = (along_end _ _ _ _ _ _ _ _ _ _ _ _ c.loop-column.invariant.0 c.loop-column-test.false, c.loop-column.invariant.1)

pub returns-then-found-columns : goal.returns-then-found-columns
returns-then-found-columns c = (along_full _ _ _ _ _ _ _ _ _ _ _ _ c.loop-column.invariant.0 (omega arith), c.loop-column.invariant.1)
