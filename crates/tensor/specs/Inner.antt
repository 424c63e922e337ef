-- What inner functions promise one another; no public contract cites it.
pub mod Standing
pub mod Placing
