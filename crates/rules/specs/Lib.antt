pub mod Triangles
pub mod Lattice
pub mod Patches
pub mod Meshes
pub mod Clauses
pub mod Ported
pub mod Inner
