-- What inner functions promise one another; no public contract cites it.
pub mod Measure
pub mod Passes
