pub mod Quoted
pub mod Decimal
pub mod Divisions
pub mod Lines
pub mod Writing
