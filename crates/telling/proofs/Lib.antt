-- Laws of this crate's definitions. Writing: `Puts` (bytes at a place), `Decimals`, `Sizes` (shifts), `Widths` (how long lines
-- are), `RefusedLines` (what they tell), `Hitting` (the lines of a page). Searching: `Searching` (pages written out one after
-- the other), `Paged` (one page more, and the end). The calls: `Tellings`, `Unique` (each contract settles its call).
mod Puts
pub mod Decimals
mod Sizes
pub mod Widths
pub mod RefusedLines
mod Hitting
pub mod Searching
mod Paged
pub mod Tellings
pub mod Unique
