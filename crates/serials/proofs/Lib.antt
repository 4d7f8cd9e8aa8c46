pub mod Sign
pub mod Up
pub mod Distances
