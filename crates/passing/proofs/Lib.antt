-- Laws of this crate: `Looking` (empty columns are looked for), `Copied` (a score without them is copied), `Numbering` (what goes
-- by the numbers of its columns), `Unique` (each contract settles its call).
mod Looking
mod Copied
mod Numbering
pub mod Unique
