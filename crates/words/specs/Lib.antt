-- Words, numbers and cells of a text, in reading order: what is read at its front, and what is promised of a place of it.
pub mod Words
pub mod Places
