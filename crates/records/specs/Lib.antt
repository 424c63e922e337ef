pub mod Kinds
pub mod Layout
pub mod Following
pub mod Format
pub mod Raw
pub mod Loop
pub mod Flags
pub mod Inner
