pub mod Members
pub mod Compares
