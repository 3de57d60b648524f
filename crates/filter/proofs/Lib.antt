-- Laws of this crate's definitions: `Words` (the theme table), `LowestInterval` (a word by the lowest interval of its set),
-- `Unique` (each contract settles its call).
pub mod Words
mod LowestInterval
pub mod Neighbours
pub mod Unique
