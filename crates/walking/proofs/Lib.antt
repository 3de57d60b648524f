-- Laws of this crate's definitions: `Order` (the starts, which they are and that they rise), `LookBound`, `Answers` (what is
-- accepted, and what a walk's answer comes to), `Unique` (each contract settles its call).
pub mod Order
pub mod LookBound
pub mod Answers
pub mod Unique
-- what the loops of a walk keep
mod Taking
