pub mod TakenOut
pub mod Gathered
