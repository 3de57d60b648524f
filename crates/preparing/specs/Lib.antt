-- How the sets of a score are found, and what a preparation promises.
pub mod Classes
pub mod Preparing
