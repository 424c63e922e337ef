pub mod Outcomes
pub mod OneOutcome
pub mod Asking
