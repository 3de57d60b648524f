-- `walking::column::try_column` meets its contract: with no start left, or no room, what the column gave is written.
use mathlib.Core.Path.{refl}
use Prim.Native.Nat.{◌<◌}
use native.Mathlib.Omega.{arith}
use Rattle.ways.specs.Way.{span}
use Rattle.walking.proofs.Order.{span_lt}
use Rattle.walking.proofs.column.Filling.{fill_none, fill_further, fill_bound, fill_turn}
use Rattle.walking.proofs.column.try_column.Goals as goal

pub returns-then-end-next : goal.returns-then-end-next
returns-then-end-next c =
    fill_none _ _ _ _ _ _ _ _ _ _ _ _ _ _ c.loop-at.invariant c.args.tune.now.ready c.requires.stands.fits _ refl _ c.next_code-next.ensures
    (omega (arith, c.span_of-end.ensures, c.if-end-next.true))

pub overflow_add-looks : goal.overflow_add-looks
overflow_add-looks c =
    let q : c.next_code-next.result < span c.args.tune.now.way = omega (arith, c.span_of-end.ensures, c.if-end-next.false) in
    omega (
      arith,
      span_lt c.args.tune.now.way,
      fill_bound _ _ _ _ _ _ _ _ _ _ _ _ _ _ c.loop-at.invariant c.args.tune.now.ready c.requires.stands.fits _ refl
          _ c.next_code-next.ensures q c.loop-at-test.true _ _ c.try_start-t.ensures,
    )

pub loop-at-smaller : goal.loop-at-smaller
loop-at-smaller c =
    omega (
      arith,
      c.span_of-end.ensures,
      c.if-end-next.false,
      fill_further _ _ _ _ _ _ _ _ _ _ _ _ _ _ c.loop-at.invariant c.args.tune.now.ready c.requires.stands.fits
          _ refl _ c.next_code-next.ensures,
    )

pub loop-at-preserved : goal.loop-at-preserved
loop-at-preserved c =
    let q : c.next_code-next.result < span c.args.tune.now.way = omega (arith, c.span_of-end.ensures, c.if-end-next.false) in
    fill_turn _ _ _ _ _ _ _ _ _ _ _ _ _ _ c.loop-at.invariant c.args.tune.now.ready c.requires.stands.fits _ refl _ c.next_code-next.ensures q
    c.loop-at-test.true _ _ c.try_start-t.ensures _ _ _ c.keep-at.ensures
