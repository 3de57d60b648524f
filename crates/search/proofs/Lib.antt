-- Laws of this crate's definitions. Places: `Notes` (all notes). Columns with a pitch: `Numbers`, `Kept`. The list: `Listed`, `AllWays`; a
-- score without an empty column: `Full`. Candidates: `Entries`, `Filtered`. The
-- worked cases: `Worked`. The calls: `PlainCall`, `QuickCall`. The two searches, for the laws of `paging`: `Searches`; quick
-- and plain compared: `Quicker`; what a walk has found is what a page shows: `Reached`; which starts it goes through:
-- `FromBookmarks`. Each contract settles its call: `Unique`. What all this comes to: `WholeLists`, `Truths`.
pub mod Notes
pub mod Numbers
mod Kept
pub mod Listed
pub mod AllWays
pub mod Full
pub mod Entries
pub mod Filtered
pub mod Worked
pub mod PlainCall
pub mod QuickCall
pub mod Unique
pub mod Searches
pub mod Quicker
pub mod Reached
pub mod FromBookmarks
pub mod WholeLists
pub mod Truths
