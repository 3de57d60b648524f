-- Why every answer of the finder fits its numbers (`SmallAnswers`), and that each call's contract leaves one answer
-- (`Unique`). Within this crate: the places of an answer and the loop that writes tracks into them (`Places`), and the
-- calls put together (`Through`).
pub mod SmallAnswers
pub mod Unique
mod Places
mod Through
