pub mod Digits
pub mod Streams
pub mod Gathering
pub mod Answers
pub mod Widths
