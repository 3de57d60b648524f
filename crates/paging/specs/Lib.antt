-- Pages over any search, in reading order: the lent buffers, the order of pairs, what a search is, its pages, how an editor reads them one
-- after the other, one page said of the list alone, and what a call comes to that lists a search.
pub mod Lent
pub mod Order
pub mod Search
pub mod Page
pub mod Reading
pub mod OnePage
pub mod Listing
-- the contract of the answer that is read off the buffers
pub mod Turning
