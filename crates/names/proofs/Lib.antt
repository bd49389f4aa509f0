pub mod Classes
pub mod Places
pub mod Same
pub mod Verdicts
