pub mod Figures
pub mod Fresh
pub mod Unchanged
pub mod Access
pub mod OneAccess
pub mod Refusals
pub mod Tables
pub mod Wrong
