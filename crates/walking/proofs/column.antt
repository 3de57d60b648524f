-- Laws of one column's starts, tried one by one.
pub mod Filling
