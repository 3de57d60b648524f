-- Laws of the loops that seek a pitch of a column.
pub mod Seeking
