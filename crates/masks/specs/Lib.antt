-- A column as a word of bits, and the starts at which it holds a note.
pub mod Masks
