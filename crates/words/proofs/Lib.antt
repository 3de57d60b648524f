-- Laws of this crate's definitions: what is read at a place, step by step, and a word at the front of a text. `Unique`: each
-- contract settles its call.
pub mod Places
pub mod Unique
mod Standing
