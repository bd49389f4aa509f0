pub mod Digits
pub mod Lengths
pub mod Same
pub mod Worked
