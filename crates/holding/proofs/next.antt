-- Laws of the loop that finds the next code.
pub mod Lowering
