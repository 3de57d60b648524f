-- When a list is trusted: the three demands, and nothing else.
pub mod Demands
