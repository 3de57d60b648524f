-- Laws of an update, for every crate above: what it leaves where the lent sets were right before (`Fresh`), when it is refused
-- (`Updated`), and that its contract settles it (`Unique`). Within this crate: the nearest columns with a pitch (`Neighbours`),
-- and the sets that are rewritten (`Rewriting`).
mod Neighbours
mod Rewriting
pub mod Fresh
pub mod Updated
pub mod Unique
