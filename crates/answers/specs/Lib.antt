pub mod Shape
pub mod Gains
pub mod Readers
pub mod Ranges
