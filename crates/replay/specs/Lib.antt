pub mod Play
pub mod Replay
