pub mod Place
pub mod Same
pub mod Answered
