pub mod Words
pub mod Schedule
