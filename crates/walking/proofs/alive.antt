-- Laws of all starts of a column at once, and of what they write.
pub mod Laws
pub mod AtOnce
