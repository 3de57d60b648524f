-- Ways of matching, in reading order: when a column holds a note, the codes of shifts, and where a search goes on. What a word
-- means stands beside how it is computed: `Holds` (in integers) is the published definition, `holds` (by codes) the method. That
-- they agree is proved.
pub mod Way
pub mod Codes
pub mod Bookmarks
