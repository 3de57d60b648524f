-- Laws of the second finder: `Seeking`, what is passed by where a number is sought.
pub mod Seeking
