-- A score, its interval sets and what is turned away: in reading order.
pub mod Limits
pub mod Score
pub mod Sets
pub mod Refusals
