-- Starts, candidates, and what a walk from a bookmark finds and writes: in reading order.
pub mod Starts
pub mod Candidates
pub mod Found
-- contracts of inner functions, which no public call promises
pub mod Scan
pub mod Walk
pub mod Alive
