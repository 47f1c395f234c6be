pub mod Answers
pub mod Copies
pub mod Ranges
