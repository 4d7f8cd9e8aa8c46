pub mod Each
pub mod Seeks
pub mod Numerals
pub mod Words
pub mod Exact
