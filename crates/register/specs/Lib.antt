pub mod Step
pub mod Calls
pub mod Parts
pub mod Registered
pub mod Events
