-- What is said once, for every width, element and list, in reading order; and when a contract settles a call (`Settled`).
pub mod Lists
pub mod Pages
pub mod Bits
pub mod Marks
pub mod Register
pub mod Settled
