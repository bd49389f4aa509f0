pub mod Fields
pub mod Worker
