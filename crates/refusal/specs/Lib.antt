pub mod Refusal
pub mod Told
pub mod Cases
