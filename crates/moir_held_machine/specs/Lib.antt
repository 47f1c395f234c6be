pub mod Writes
pub mod Setting
