pub mod Names
pub mod Places
pub mod Verdicts
