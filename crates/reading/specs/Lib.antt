-- The lister's input, in reading order: what a line is, what an input means, which of its lines are right, what the call
-- promises.
pub mod Reading
pub mod Request
pub mod Lines
pub mod Taking
-- contracts of inner functions, which no public call promises
pub mod Steps
