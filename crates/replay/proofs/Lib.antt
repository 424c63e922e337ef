pub mod Floats
pub mod Sums
pub mod Numbered
pub mod Wholes
pub mod Seeing
pub mod Tallying
