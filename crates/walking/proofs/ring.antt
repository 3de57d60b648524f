-- Laws of the words that are kept.
pub mod Laws
