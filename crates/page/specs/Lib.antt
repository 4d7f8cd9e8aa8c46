pub mod Page
pub mod Written
