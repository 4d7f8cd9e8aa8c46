pub mod Again
pub mod Cases
pub mod Passed
pub mod Rows
