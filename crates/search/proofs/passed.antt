-- Laws of the functions of `passed`.
mod Laws
