pub mod Counts
pub mod Within
pub mod Lengths
pub mod Components
