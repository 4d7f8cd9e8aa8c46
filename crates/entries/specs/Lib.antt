pub mod Place
pub mod Tag
