-- The invariant and the measure.
use mathlib.Core.Path.{◌≡◌}
use mathlib.Core.Bool.{true}
use Prim.Native.Nat.{◌-◌}
use Rattle.theory.specs.Pages.{from}
use Rattle.score.specs.Score.{score_of}
use Rattle.walking.specs.Starts.{key, starts}
use Rattle.walking.specs.Walk.{end_of}
use Rattle.walking.specs.Alive.{Cached}
use Rattle.walking.proofs.walk.Walking.{Walking, spot_key}
use Rattle.walking.proofs.walk.walk_every.Given as goal

abbrev pub invariant-loop-left : goal.invariant-loop-left
invariant-loop-left l = Walking (λ k. true) l.fn.way l.cells l.tracks l.theme (from key (spot_key l.initial.spot) (starts l.fn.way (score_of l.cells l.tracks) l.theme)) l.initial.columns l.initial.shifts l.columns l.shifts l.spot l.looks
    × (l.left ≡ end_of l.cells l.tracks l.theme - l.spot.column.0) × Cached l.fn.way l.cells l.tracks l.ring

abbrev pub decreases-loop-left : goal.decreases-loop-left
decreases-loop-left l = l.left
