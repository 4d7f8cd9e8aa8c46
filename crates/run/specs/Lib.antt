pub mod Calls
pub mod Demand3
pub mod Exact
pub mod Counted
pub mod Sense
