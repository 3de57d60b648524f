-- A turn lists columns from the spot on, walks along them, and goes on behind them.
use mathlib.Core.Path.{refl, ap}
use native.Mathlib.Omega.{arith}
use Rattle.walking.specs.declared.walked.Spot.{Spot}
use Rattle.walking.proofs.Answers.{accepted_ready}
use Rattle.walking.proofs.walk.Walking.{begun_key, every_start, turn_bound, turn_on, walk_end, walk_full, some_of, many_of, every_turn, turn_asks}
use Rattle.walking.proofs.walk.walk_every.Goals as goal

pub invariant_of-tune : goal.invariant_of-tune
invariant_of-tune c = record { ready = accepted_ready c.requires.accepted }

pub loop-left-init : goal.loop-left-init
loop-left-init c = (every_start c.requires c.begin-spot.ensures, c.columns_left-left.ensures, c.new-ring.ensures _ _ _)

pub walk_along-t-requires-clause-along : goal.walk_along-t-requires-clause-along
walk_along-t-requires-clause-along c =
    let i = c.loop-left.invariant in
    let s = some_of c.min-many.ensures c.loop-left-test.true in
    let l = many_of _ _ _ (omega (arith, s.2, c.min-many.array_long)) c.list_every.ensures in
    turn_asks (every_turn l i.0 refl s.0 (omega (arith, s.1, i.1)))

pub overflow_add-looks : goal.overflow_add-looks
overflow_add-looks c =
    let i = c.loop-left.invariant in
    let s = some_of c.min-many.ensures c.loop-left-test.true in
    let l = many_of _ _ _ (omega (arith, s.2, c.min-many.array_long)) c.list_every.ensures in
    record { fits = turn_bound (every_turn l i.0 refl s.0 (omega (arith, s.1, i.1))) c.walk_along-t.ensures.0 }

pub loop-left-preserved : goal.loop-left-preserved
loop-left-preserved c =
    let i = c.loop-left.invariant in
    let s = some_of c.min-many.ensures c.loop-left-test.true in
    let l = many_of _ _ _ (omega (arith, s.2, c.min-many.array_long)) c.list_every.ensures in
    let u = every_turn l i.0 refl s.0 (omega (arith, s.1, i.1)) in (
      turn_on u c.walk_along-t.ensures.0 c.go_on-spot.ensures,
      omega (arith, i.1, ap (λ (s : Spot). s.column.0) c.go_on-spot.ensures),
      c.walk_along-t.ensures.1,
    )

pub returns-else-spot-columns : goal.returns-else-spot-columns
returns-else-spot-columns c =
    rw (← (begun_key c.requires c.begin-spot.ensures))
    (walk_full c.loop-left.invariant.0 (omega arith))

pub returns-after-loop-left : goal.returns-after-loop-left
returns-after-loop-left c =
    rw (← (begun_key c.requires c.begin-spot.ensures))
    (walk_end c.loop-left.invariant.0 c.loop-left.invariant.1 c.loop-left-test.false)
