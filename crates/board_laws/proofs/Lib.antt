pub mod StationLaws
pub mod Theorems
