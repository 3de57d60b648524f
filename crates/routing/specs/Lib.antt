-- The route of a listed pair, in reading order: what a route is and which one is meant (`Route`), and what the call promises
-- (`Routing`).
pub mod Route
pub mod Routing
-- what inner functions promise: the method, by sets of tracks
pub mod TrackSets
