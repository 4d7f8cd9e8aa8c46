pub mod Calls
pub mod Fields
pub mod Lawful
pub mod Numbers
pub mod Past
pub mod Trips
