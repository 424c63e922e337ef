pub mod Limits
pub mod Outcome
