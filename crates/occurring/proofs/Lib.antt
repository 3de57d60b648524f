-- Laws of the question, for every crate above: a theme with an interval that the summary lacks has no pair (`Absent`), when it
-- is refused and what it answers (`Asked`), and that its contract settles it (`Unique`). Within this crate: the answer by a page
-- of one place (`OnePlace`), the one without (`NoWalk`), and which of them is given (`Choosing`); how a lacking interval is
-- looked for (`Looking`).
pub mod Absent
mod Looking
pub mod OnePlace
mod NoWalk
mod Choosing
pub mod Asked
pub mod Unique
