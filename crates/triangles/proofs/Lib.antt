pub mod Rows
pub mod Counting
pub mod Writing
pub mod Cells
pub mod Ends
