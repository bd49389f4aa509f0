pub mod Shared
pub mod Story
pub mod Trace
pub mod Run
