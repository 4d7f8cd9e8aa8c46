pub mod Bag
pub mod Law
pub mod Claims
pub mod Following
