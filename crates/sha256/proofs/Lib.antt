pub mod Blocks
pub mod Padding
pub mod Output
pub mod Answers
