pub mod Filter
pub mod Promises
