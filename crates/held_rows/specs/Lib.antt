pub mod Reads
pub mod ListRows
pub mod WholeRows
