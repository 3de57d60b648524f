-- Laws of this crate's definitions: `Rows` (refusals), `Unique` (each contract settles its call).
pub mod Rows
pub mod Unique
