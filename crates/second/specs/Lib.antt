-- The second finder's own words, which share nothing with the library's: `Shifts` of the ways, `Columns` of a score.
pub mod Shifts
pub mod Columns
