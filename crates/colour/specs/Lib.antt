pub mod Light
pub mod Colour
pub mod Inner
