pub mod Vertices
pub mod Cells
