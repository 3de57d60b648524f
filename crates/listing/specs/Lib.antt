-- The lister's output, in reading order: what a right input is, what is answered, what the call promises.
pub mod Limits
pub mod Texts
pub mod Answer
pub mod Listing
