-- Laws of the function on starts, along a theme.
pub mod Trying
