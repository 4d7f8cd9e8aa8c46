pub mod Held
pub mod Fields
pub mod Answers
pub mod Same
pub mod Answered
