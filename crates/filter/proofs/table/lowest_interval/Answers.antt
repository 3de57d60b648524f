-- `filter::table::lowest_interval` meets its contract: below the lowest interval a set has ones, and `set + 1` zeros. Assumes
-- nothing.
use Rattle.std.proofs.Common.{◌+◌, ◌^◌, ◌<◌, arith}
use Rattle.filter.proofs.LowestInterval.{lowest_counted, zeros_opposite}
use Rattle.filter.proofs.table.lowest_interval.Goals as goal

pub returns : goal.returns
returns c =
    let h : c.args.set + 1 < 2 ^ 64 = omega (arith, c.requires) in
    rw (zeros_opposite 64 c.args.set h) (lowest_counted 64 c.args.set h)
