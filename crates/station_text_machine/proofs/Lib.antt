pub mod RunSizes
pub mod SeenLaws
pub mod StoredRun
pub mod Theorems
