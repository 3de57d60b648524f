-- `routing::along::held_behind` meets its contract: a column that holds its note, an empty one, one that ends the search.
use mathlib.Core.Path.{refl, ap}
use mathlib.Core.Bool.{not}
use Prim.Native.Nat.{◌*◌, ◌<◌}
use native.Mathlib.Omega.{arith}
use Rattle.score.specs.Score.{columns_in}
use Rattle.score.proofs.Columns.{column_cells}
use Rattle.routing.proofs.ColumnByColumn.{following_took, following_skipped, following_failed, following_found, following_end}
use Rattle.routing.proofs.along.held_behind.Goals as goal
use Rattle.routing.proofs.along.held_behind.Goals.{then-set-ne0, else-set-ne0+else-not-is_empty}

pub returns-in_default : goal.returns-in_default
returns-in_default c = following_found _ _ _ _ _ _ _ c.loop-k.invariant c.in_default.ensures.lookup.3

pub returns-then-not-is_empty : goal.returns-then-not-is_empty
returns-then-not-is_empty c =
    let room : c.loop-k.k < columns_in c.args.tune.now.cells.now c.args.tune.now.tracks = omega (arith, c.columns_in-k-end.ensures) in
    let (more, note) = c.in-Some.ensures.lookup.3 in
    let here = column_cells c.args.tune.now.cells.now c.args.tune.now.tracks c.loop-k.k (c.loop-k.k * c.args.tune.now.tracks) refl room in
    let set = rw (note 0) at c.holders-set.ensures in
    following_failed _ _ _ _ _ _ _ c.loop-k.invariant room more here set c.if-set-ne0.false
    c.is_empty.ensures (ap not c.if-not-is_empty.true)

pub loop-k-preserved : goal.loop-k-preserved
loop-k-preserved c =
    let room : c.loop-k.k < columns_in c.args.tune.now.cells.now c.args.tune.now.tracks = omega (arith, c.columns_in-k-end.ensures) in
    let (more, note) = c.in-Some.ensures.lookup.3 in
    let here = column_cells c.args.tune.now.cells.now c.args.tune.now.tracks c.loop-k.k (c.loop-k.k * c.args.tune.now.tracks) refl room in
    let set = rw (note 0) at c.holders-set.ensures in
    elim c.if-set-ne0.branch [
      | then-set-ne0 w ↦
          rw (w.sets-is, w.q-is) (following_took _ _ _ _ _ _ _ c.loop-k.invariant room more here set c.requires w.if-set-ne0.true)
      | else-set-ne0+else-not-is_empty w ↦
          rw (w.sets-is, w.q-is)
          (following_skipped _ _ _ _ _ _ _ c.loop-k.invariant room more here set w.is_empty.ensures (ap not w.if-not-is_empty.false))
    ]

pub returns : goal.returns
returns c = following_end _ _ _ _ _ _ _ c.loop-k.invariant c.columns_in-k-end.ensures c.loop-k-test.false
