pub mod Sources
pub mod Placing
pub mod Any
