pub mod Brackets
pub mod Positions
