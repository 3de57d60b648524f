-- Laws of the theme table as it is filled: `IntervalWords` (the word of each interval alone), `Downward` (the table, from 4095
-- downward).
pub mod IntervalWords
pub mod Downward
