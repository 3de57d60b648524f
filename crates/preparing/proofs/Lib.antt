-- Laws of this crate's definitions, for every crate above: `Preparing`, `Prepared` (when a preparation is refused, and what it
-- leaves), `ClassSets` and `Turning` (twelve classes as bits), `Unique` (each contract settles its call). Within this crate:
-- empty columns by class sets (`Carrying`), and how the sets are filled (`Filling`).
pub mod Preparing
pub mod Prepared
mod Most
pub mod ClassSets
pub mod Turning
mod Carrying
mod Filling
pub mod Unique
