pub mod Formulas
pub mod Turning
pub mod Outcomes
pub mod Surface
pub mod Inner
