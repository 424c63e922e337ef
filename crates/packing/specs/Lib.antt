pub mod Packed
pub mod Writer
pub mod Inner
