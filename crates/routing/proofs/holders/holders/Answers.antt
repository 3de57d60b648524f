-- `routing::holders::holders` meets its contract, by cases of the way.
use native.Mathlib.Omega.{arith}
use Rattle.score.specs.Limits.{most_tracks}
use Rattle.ways.specs.declared.way.Way.TheVariants.{Exact, Octave}
use Rattle.seeking.specs.Track.{cell_holds}
use Rattle.routing.proofs.CellBits.{set_lt}
use Rattle.routing.proofs.holders.holders.Goals as goal

pub overflow_mul-result : goal.overflow_mul-result
overflow_mul-result c =
    let a = c.args in
    omega (arith, c.exact_set.ensures, set_lt (cell_holds Exact a.code a.p) a.column.now most_tracks c.requires)

pub overflow_mul-result-in-Octave : goal.overflow_mul-result-in-Octave
overflow_mul-result-in-Octave c =
    let a = c.args in
    omega (arith, c.octave_set.ensures, set_lt (cell_holds Octave a.code a.p) a.column.now most_tracks c.requires)
