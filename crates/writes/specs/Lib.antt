pub mod Carry
pub mod Writes
