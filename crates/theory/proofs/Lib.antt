-- Laws of the definitions in specs/, for every crate above. Lists: `Lists`, `Members`, `Counts` (how many pass a test).
-- Pages: `Pages` (hits and what is left), `Looks`, `Readings` (page after page), `Bookmarks` (keys), `Hits` (two tests),
-- `Thin` (starts left out), `Going` (a page under way). Bits: `Bits`, `Masks` (what code writes),
-- `Marks` (what a word marks), `Register`. Signs: `Signed`, `Integers` (their order). Calls: `Unique`.
pub mod Unique
pub mod Either
pub mod Lists
pub mod Members
pub mod Counts
pub mod Lowest
pub mod Scans
pub mod Chains
pub mod Pages
pub mod Looks
pub mod Readings
pub mod Bookmarks
pub mod Hits
pub mod Thin
pub mod Going
pub mod Bits
pub mod Masks
pub mod Marks
pub mod Register
pub mod Signed
pub mod Integers
