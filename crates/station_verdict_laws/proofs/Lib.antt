pub mod GivenLaws
pub mod Theorems
