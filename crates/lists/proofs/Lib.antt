pub mod Pieces
pub mod Writing
pub mod Walking
pub mod Members
pub mod Placing
pub mod Parts
