-- Laws of this crate's definitions: `Shifts` and `Coding` (codes and shifts), `Holding` (a column and a note),
-- `Unique` (each contract settles its call).
pub mod Shifts
pub mod Holding
pub mod Coding
pub mod Unique
