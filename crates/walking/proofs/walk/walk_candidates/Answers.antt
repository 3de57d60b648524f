-- A turn lists candidates from the spot on, walks along them, and goes on behind the columns that were decided.
use mathlib.Core.Path.{refl, ap, ◌∙◌}
use native.Mathlib.Omega.{arith}
use Rattle.walking.specs.declared.walked.Spot.{Spot}
use Rattle.walking.proofs.Answers.{accepted_ready, asked_lent, asked_small}
use Rattle.walking.proofs.register.Laws.{warmed_filters}
use Rattle.walking.proofs.walk.Walking.{begun_key, begun_first, quick_start, turn_bound, turn_on, walk_end, walk_full}
use Rattle.walking.proofs.walk.Walking.{candidates_long, candidates_turn, turn_asks}
use Rattle.walking.proofs.walk.walk_candidates.Goals as goal

pub invariant_of-tune : goal.invariant_of-tune
invariant_of-tune c = record { ready = accepted_ready c.requires.plain.accepted }

pub returns-then-left-eq0 : goal.returns-then-left-eq0
returns-then-left-eq0 c =
    let p = c.requires.plain in
    let b = c.begin-spot.ensures in
    let t = quick_start p b c.args.table.now c.args.sets.now in
    rw (← (begun_key p b)) (walk_end t c.columns_left-left.ensures (omega arith))

pub invariant_of-entries : goal.invariant_of-entries
invariant_of-entries c = record { table_long = c.requires.table_long; sets_small = asked_small c.requires }

pub loop-left-init : goal.loop-left-init
loop-left-init c =
    let p = c.requires.plain in
    let b = c.begin-spot.ensures in (
      quick_start p b _ _,
      c.columns_left-left.ensures,
      warmed_filters _ _ _ _ _ p.accepted.notes_some (begun_first p b) c.warmed-register.ensures,
      c.new-ring.ensures _ _ _,
      refl,
    )

pub list_candidates-l-requires-clause-lent : goal.list_candidates-l-requires-clause-lent
list_candidates-l-requires-clause-lent c =
    asked_lent c.requires c.loop-left.invariant.0.first (omega (arith, c.loop-left-test.true)) (omega (arith, c.loop-left.invariant.1))

pub walk_along-t-requires-clause-along : goal.walk_along-t-requires-clause-along
walk_along-t-requires-clause-along c = turn_asks (candidates_turn c.list_candidates-l.ensures c.loop-left.invariant.0 refl (omega (arith, c.loop-left.invariant.1)))

pub overflow_add-looks : goal.overflow_add-looks
overflow_add-looks c =
    let u = candidates_turn c.list_candidates-l.ensures c.loop-left.invariant.0 refl (omega (arith, c.loop-left.invariant.1)) in
    record { fits = turn_bound u c.walk_along-t.ensures.0 }

pub loop-left-preserved : goal.loop-left-preserved
loop-left-preserved c =
    let d = c.list_candidates-l.ensures in
    let i = c.loop-left.invariant in
    let u = candidates_turn d i.0 refl (omega (arith, i.1)) in (
      turn_on u c.walk_along-t.ensures.0 c.go_on-spot.ensures,
      omega (arith, i.1, ap (λ (s : Spot). s.column.0) c.go_on-spot.ensures),
      rw c.go_on-spot.ensures d.decides.goes_on,
      c.walk_along-t.ensures.1,
      candidates_long d ∙ i.4,
    )

pub returns-else-spot-columns : goal.returns-else-spot-columns
returns-else-spot-columns c =
    rw (← (begun_key c.requires.plain c.begin-spot.ensures)) (walk_full c.loop-left.invariant.0 (omega arith))

pub returns-after-loop-left : goal.returns-after-loop-left
returns-after-loop-left c =
    rw (← (begun_key c.requires.plain c.begin-spot.ensures))
    (walk_end c.loop-left.invariant.0 c.loop-left.invariant.1 c.loop-left-test.false)
