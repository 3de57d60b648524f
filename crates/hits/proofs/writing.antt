-- Laws of what is written: a word's codes one after the other, and one start.
pub mod Putting
pub mod Keeping
