-- Empty columns passed over.
pub mod Passing
