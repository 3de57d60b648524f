-- Laws of the functions of `page`.
mod Choosing
mod Silent
