-- Laws of this crate's definitions, for every crate above. A score: `Columns` (cut into its columns), `Pitches`,
-- `Heard` (columns with a pitch). Intervals:
-- `Twelves` (divisible by 12, in natural numbers), `Intervals`, `IntervalSets`. Refusals: `Judging` (from a verdict to an
-- answer), `Judged` (what rows come to), `Sound` (what an accepted score has). The calls: `Unique`
-- (each contract settles its call).
pub mod Columns
pub mod Pitches
pub mod Heard
pub mod Twelves
pub mod Intervals
pub mod IntervalSets
pub mod Judging
pub mod Judged
pub mod Sound
pub mod Unique
