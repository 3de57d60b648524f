-- Laws of the functions of `page`.
pub mod Laws
