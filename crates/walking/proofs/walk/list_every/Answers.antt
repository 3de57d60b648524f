-- A turn stores the next column; at the end each place has one.
use mathlib.Core.Path.{◌≡◌, ap, ◌∙◌}
use native.Mathlib.Omega.{arith}
use lib.ListN.{length}
use Rattle.theory.specs.Lists.{count}
use Rattle.walking.proofs.walk.Along.{count_turn, count_whole}
use Rattle.walking.proofs.walk.list_every.Goals as goal

pub loop-i-preserved : goal.loop-i-preserved
loop-i-preserved c = count_turn _ _ _ _ c.loop-i.invariant (omega arith)

pub returns : goal.returns
returns c =
    let e : c.loop-i.i ≡ length c.args.list.now = omega arith in
    count_whole _ _ _ _ c.loop-i.invariant e ∙ ap (count c.args.first.0) e
