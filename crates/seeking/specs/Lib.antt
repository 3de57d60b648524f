-- Where the notes of a theme are sought (`Sought`), and which track holds one (`Track`).
pub mod Limits
pub mod Sought
pub mod Track
