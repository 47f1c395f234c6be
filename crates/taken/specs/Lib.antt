pub mod Ranges
pub mod Taken
