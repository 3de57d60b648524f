-- Each note leaves the starts at which the next column holds it. What the first note costs was counted, and is taken off.
use mathlib.Core.Path.{◌≡◌}
use mathlib.Core.List.{List}
use Prim.Native.Nat.{ℕ, ◌+◌, ◌-◌, ◌*◌}
use native.Mathlib.Omega.{arith}
use lib.ListN.{take, drop}
use Rattle.masks.specs.Masks.{value}
use Rattle.masks.proofs.Halves.{Halves, halves_and, value_none}
use Rattle.masks.proofs.HeldWords.{moved_word_lem}
use Rattle.walking.proofs.alive.Laws.{follow_first, none_spare, follow_none, end_spare, follow_end, follow_halves}
use Rattle.walking.proofs.alive.follow.Goals as goal
use Rattle.walking.proofs.alive.follow.Goals.{else-loop-k-test, then-loop-k-test+then-low-high-eq0}

pub loop-k-init : goal.loop-k-init
loop-k-init c =
    let a = c.all_starts-all.result in
    let h : Halves a.low a.high = record { lower = omega arith; upper = omega arith } in
    (rw c.all_starts-all.ensures (follow_first _ _ _ _ _ c.args.tune.now.ready c.requires.fits), h, c.requires.cached)

pub loop-k-preserved : goal.loop-k-preserved
loop-k-preserved c =
    let a = c.args.tune.now in
    let i = c.loop-k.invariant in
    let m = c.moved-held.result in
    let h : Halves m.low m.high = record { lower = omega arith; upper = omega arith } in
    let e = c.word_at-w.ensures in
    let cells : List ℕ = take a.tracks (drop ((c.args.column.0 + c.loop-k.k - 1) * a.tracks) a.cells.now) in
    let held = moved_word_lem _ _ _ cells e.0 c.moved-held.ensures (c.args.tune.now.ready.sung 0) in
    (follow_halves _ _ _ _ _ c.args.tune.now.ready c.requires.fits _ _ _ _ i.1 i.0 c.loop-k-test.true _ _ h held, halves_and _ _ _ _ i.1 h, e.1)

pub overflow_sub-result : goal.overflow_sub-result
overflow_sub-result c =
    let i = c.loop-k.invariant in
    elim c.loop-k-test.branch [
      | else-loop-k-test w ↦ omega (
        arith,
        end_spare _ _ _ _ _ c.args.tune.now.ready c.requires.fits _ _ _ i.0 w.loop-k-test.false,
        c.width_of-spare.ensures,
      )
      | then-loop-k-test+then-low-high-eq0 w ↦
          let z : value c.loop-k.low c.loop-k.high ≡ 0 = value_none _ _ i.1 w.if-low-high-eq0.true in
          omega (arith, none_spare _ _ _ _ _ c.args.tune.now.ready c.requires.fits _ _ _ i.0 z, c.width_of-spare.ensures)
    ]

pub returns : goal.returns
returns c =
    let i = c.loop-k.invariant in
    elim c.loop-k-test.branch [
      | else-loop-k-test w ↦ (rw c.width_of-spare.ensures (follow_end _ _ _ _ _ c.args.tune.now.ready c.requires.fits _ _ _ i.0 w.loop-k-test.false), i.2)
      | then-loop-k-test+then-low-high-eq0 w ↦
          let z : value c.loop-k.low c.loop-k.high ≡ 0 = value_none _ _ i.1 w.if-low-high-eq0.true in
          (rw c.width_of-spare.ensures (follow_none _ _ _ _ _ c.args.tune.now.ready c.requires.fits _ _ _ i.0 z), i.2)
    ]
