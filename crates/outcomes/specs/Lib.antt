pub mod Outcomes
pub mod Exports
