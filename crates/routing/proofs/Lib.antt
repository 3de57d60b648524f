-- Laws of the router. For every crate above: a pair is listed exactly where it stands (`ListedPairs`), there is exactly one route that
-- is meant (`MeantRoute`), what the call answers (`RouteAnswers`), and that its contract settles it (`Unique`). Within this crate, the
-- method: tracks as sets (`TrackBits`, `HeldBy`, `LowestTrack`), one note (`NextTrack`) and all (`FewestChanges`); and its loops: cell
-- by cell (`CellBits`), column by column (`ColumnByColumn`, `AtPair`), and note by note backward and forward (`LastToFirst`,
-- `FirstToLast`).
mod LowestTrack
mod NextTrack
mod HeldBy
mod FewestChanges
pub mod ListedPairs
mod CellBits
mod TrackBits
mod ColumnByColumn
mod AtPair
mod LastToFirst
mod FirstToLast
pub mod MeantRoute
pub mod RouteAnswers
pub mod Unique
