pub mod Idle
pub mod Laws
pub mod Listed
pub mod Rows
pub mod Same
