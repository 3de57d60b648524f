-- A search told as text, in reading order: how things are written, the lines, what the calls promise.
pub mod Limits
pub mod Text
pub mod Lines
pub mod Telling
-- contracts of inner functions, which no public call promises
pub mod Steps
pub mod Outputs
