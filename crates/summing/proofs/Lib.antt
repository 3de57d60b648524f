-- Laws of the summary, for every crate above (`Summaries`), and that its contract settles its call (`Unique`).
pub mod Summaries
pub mod Unique
