pub mod OwnBenchLaws
pub mod ExplainedLaws
pub mod BoardRunLaws
pub mod Theorems
pub mod Examples
pub mod ViewPlaces
pub mod HeldTextLaws
