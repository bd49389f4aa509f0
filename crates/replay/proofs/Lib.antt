pub mod Exponent
pub mod Laws
pub mod Same
pub mod Turns
pub mod Whole
