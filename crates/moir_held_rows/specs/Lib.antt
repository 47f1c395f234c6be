pub mod Reads
pub mod ListRows
