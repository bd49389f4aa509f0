pub mod Laws
pub mod Same
pub mod Packed
pub mod Promises
pub mod AsRecords
