-- Why a pair is listed or not, in reading order.
pub mod Explaining
-- what inner functions promise; no public call promises it by itself
pub mod Inner
