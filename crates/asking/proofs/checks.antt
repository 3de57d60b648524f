-- Laws of the checks of a call.
pub mod Laws
