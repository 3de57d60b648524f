-- The summary of interval sets.
pub mod Summary
