pub mod Text
pub mod Read
pub mod Exact
pub mod Digits
