-- The invariant and the measure.
use mathlib.Core.Path.{◌≡◌}
use Prim.Native.Nat.{◌-◌}
use lib.ListN.{length}
use Rattle.theory.specs.Pages.{from}
use Rattle.score.specs.Score.{score_of}
use Rattle.filter.specs.Limits.{word_bits}
use Rattle.walking.specs.Starts.{key}
use Rattle.walking.specs.Candidates.{candidate, quick_starts}
use Rattle.walking.specs.Scan.{Filters}
use Rattle.walking.specs.Walk.{end_of, listed}
use Rattle.walking.specs.Alive.{Cached}
use Rattle.walking.proofs.walk.Walking.{Walking, spot_key}
use Rattle.walking.proofs.walk.walk_candidates.Given as goal

abbrev pub invariant-loop-left : goal.invariant-loop-left
invariant-loop-left l = Walking (candidate word_bits l.table l.sets (length l.theme)) l.fn.way l.cells l.tracks l.theme
    (from key (spot_key l.initial.spot) (quick_starts word_bits l.fn.way (score_of l.cells l.tracks) l.theme l.table l.sets)) l.initial.columns l.initial.shifts l.columns l.shifts l.spot l.looks
    × (l.left ≡ end_of l.cells l.tracks l.theme - l.spot.column.0) × Filters l.table l.sets (length l.theme) l.register l.spot.column.0 × Cached l.fn.way l.cells l.tracks l.ring
    × (length l.list ≡ listed)

abbrev pub decreases-loop-left : goal.decreases-loop-left
decreases-loop-left l = l.left
