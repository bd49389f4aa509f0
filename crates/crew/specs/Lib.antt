pub mod Crew
pub mod One
