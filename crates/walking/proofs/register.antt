-- Laws of the register as it is run along the sets.
pub mod Laws
