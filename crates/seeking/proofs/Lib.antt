-- Laws of this crate: `Tracks` (a column holds a note where one of its cells does, and the lowest track is that of the first),
-- `Numbers` (the columns that are sought, by their numbers), `Descending` (a loop from the last entry to the first), `Unique` (each
-- contract settles its call). Within this crate: how the numbers are found (`Finding`).
pub mod Descending
pub mod Tracks
mod Finding
pub mod Numbers
pub mod Unique
