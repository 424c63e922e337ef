pub mod Floats
pub mod Decode
pub mod Stored
pub mod Inner
