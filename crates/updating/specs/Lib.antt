-- The sets of a score in which one column was changed.
pub mod Updating
