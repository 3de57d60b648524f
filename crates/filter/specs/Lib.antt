-- The theme table. The register's words, `step` and `bit`, are theory's.
pub mod Limits
pub mod Table
-- what the inner functions of the filling promise; no public call promises it by itself
pub mod LowestInterval
