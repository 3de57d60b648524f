-- Each turn passes a column at least and lists a candidate at most, until no column is left or as many are listed as are wanted.
use mathlib.Core.Path.{◌≡◌}
use mathlib.Core.Bool.{Bool, true, false, cond}
use Prim.Native.Nat.{ℕ, ◌+◌, ◌≤◌, ◌<◌}
use native.Mathlib.Omega.{arith}
use Rattle.walking.proofs.register.Laws.{list_turn}
use Rattle.walking.proofs.register.Entries.list_candidates.Goals as goal

-- one more at most is listed
counted : (b : Bool) {at at' wanted : ℕ} → at' ≡ cond b (at + 1) at → at < wanted → at' ≤ wanted
counted true e h = omega (arith, e)
counted false e h = omega (arith, e)

pub loop-passed-preserved : goal.loop-passed-preserved
loop-passed-preserved c =
    let i = c.loop-passed.invariant in (
      list_turn i.0 c.seek-s.ensures (omega (arith, c.requires.le_wanted)) c.noted-count.ensures.0 c.noted-count.ensures.1,
      counted c.seek-s.result.marked c.noted-count.ensures.0 c.if-count-wanted.true,
    )
