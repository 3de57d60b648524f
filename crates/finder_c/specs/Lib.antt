-- The calls for other languages: how answers are told in numbers, an explanation by `Reasons`, and what each call leaves.
pub mod Limits
pub mod Singles
pub mod Numbers
pub mod Reasons
pub mod Small
pub mod Calls
