-- The next code at which a column holds a note. When it holds one is `ways`'s word, `holds`.
pub mod Next
