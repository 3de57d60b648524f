-- Laws of this crate's definitions, for every crate above: `Halves` (two halves of 64 bits as one number), `HeldWords` (the
-- bits of words, and that the word of a column, moved by a note, has the starts at which it holds the note), `Unique` (each
-- contract settles its call). Within this crate: the loop along a column, and shifts of the halves.
pub mod Halves
pub mod HeldWords
pub mod Unique
mod Gathering
mod Shifting
