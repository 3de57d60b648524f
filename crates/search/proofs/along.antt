-- Laws of the functions of `along`.
mod Calls
