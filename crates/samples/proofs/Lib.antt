pub mod Computing
pub mod Samples
pub mod Errors
