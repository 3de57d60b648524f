-- Laws of pages over any search. Pairs: `Orders`, `AtOrAfter` (from a bookmark on), `Keys` (one number orders
-- them), `Bookmarks`. Searches of searches: `Fewer` (starts left out), `Renumbered` (other numbers). The lent buffers: `Buffers`. The call: `Unique` (the contract settles it).
pub mod Orders
pub mod AtOrAfter
pub mod Keys
pub mod Bookmarks
pub mod Buffers
pub mod Paging
pub mod Readings
pub mod OnePages
pub mod Finished
pub mod Fewer
pub mod Renumbered
pub mod Answers
pub mod Turnings
pub mod UnderWay
pub mod Unique
