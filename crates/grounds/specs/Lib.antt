-- The second explainer's own words, which share nothing with the library's: `Notes`, which note a reason names.
pub mod Notes
