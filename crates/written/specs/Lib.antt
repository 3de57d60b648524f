-- The tune in its own key, in reading order: where a theme stands as it is written, and the pages of that search.
pub mod Written
-- contracts of inner functions, which no public call promises
pub mod Words
pub mod Walk
