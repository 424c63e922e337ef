pub mod Appending
pub mod Kinds
pub mod Headers
