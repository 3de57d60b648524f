-- What a search is asked for, in reading order: the limits of a theme, what is turned away and what is then accepted. How a
-- search matches and where it goes on is said in `ways`.
pub mod Limits
pub mod Refusals
pub mod Asking
