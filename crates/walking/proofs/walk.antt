-- Laws of the walk: the starts at or after a place, by columns; and what its loops keep.
pub mod Along
pub mod Trying
pub mod Walking
