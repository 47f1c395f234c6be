pub mod Examples
pub mod PlaceLaws
pub mod Theorems
pub mod Lengths
pub mod SmallLaws
