-- Laws of the loops along a column, and what the public calls give where they are asked right (`Given`). `Unique`: each
-- contract settles its call.
pub mod Given
pub mod Unique
