pub mod Session
pub mod Fits
