pub mod Cuts
pub mod Yields
pub mod Exact
