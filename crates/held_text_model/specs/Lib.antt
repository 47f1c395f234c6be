pub mod Upto
pub mod States
pub mod FirstStates
