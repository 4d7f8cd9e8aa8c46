pub mod Answers
pub mod Short
