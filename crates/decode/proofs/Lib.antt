pub mod Exact
pub mod BigEndian
