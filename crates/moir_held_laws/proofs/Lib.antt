pub mod TagsFit
pub mod Theorems
