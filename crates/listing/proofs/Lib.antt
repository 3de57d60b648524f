-- Laws of this crate's definitions, and that the contract settles the call (`Unique`).
mod Rights
mod RightLines
mod Acceptance
pub mod Texts
pub mod LineTexts
pub mod Outputs
mod Meanings
pub mod Listings
pub mod Unique
pub mod Behind
pub mod Answers
pub mod Worked
