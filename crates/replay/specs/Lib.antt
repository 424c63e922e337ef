pub mod Digest
pub mod Calls
pub mod Cases
pub mod Inner
pub mod Tallies
