-- Laws of the explainer. What is computed by the numbers of the columns is what the definition says: `Fitting` (of the column),
-- `Agreeing` (of notes and intervals). For every crate above: what its rows come to (`Refusing`), and
-- that its contract settles it (`Unique`). Within this crate: the loops, note by note (`NoteByNote`) and interval by interval
-- (`Sifting`), and the answer put together (`Answering`).
mod NoteByNote
mod Sifting
pub mod Fitting
mod Agreeing
pub mod Refusing
mod Answering
pub mod Unique
