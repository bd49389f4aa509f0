pub mod Same
pub mod Whole
