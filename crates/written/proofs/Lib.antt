-- The laws of the tune in its own key, in reading order: numbers of which bits are 0, the theme's words, where the theme
-- stands, and what a walk along the columns lists; the page; and that the contract settles the call.
pub mod Zeros
pub mod Cells
pub mod Standing
pub mod Listing
pub mod Paged
pub mod Listed
pub mod Unique
