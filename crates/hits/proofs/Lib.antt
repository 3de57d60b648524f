-- Laws of this crate's definitions, for every crate above: `Fitting` (what fits is written, and what does not is not),
-- `Unique` (each contract settles its call).
pub mod Fitting
pub mod Unique
