-- Laws of this crate's definitions. Of lines as they are read: `Filling`, `Lining`, `Scoring`. Of the lines of an input:
-- `LinesRead` (a line alone), `LinesDivided` (which they are), `LineLengths`, `ChordRuns`, `LinesSaid`, `FirstFaults` (the
-- first faulty one), `EachFault`. Of a whole input and of the call: `Wholes`, `Takings`,
-- `AnswersByLines`, `Unique` (the contract settles the call).
mod Filling
mod Lining
pub mod Scoring
mod LinesRead
pub mod LinesDivided
pub mod LineLengths
mod ChordRuns
mod LinesSaid
pub mod FirstFaults
pub mod EachFault
mod Wholes
pub mod Takings
pub mod Unique
pub mod AnswersByLines
