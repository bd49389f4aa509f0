pub mod Played
pub mod Samples
pub mod Errors
