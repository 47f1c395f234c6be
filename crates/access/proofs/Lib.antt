pub mod PlaceLaws
pub mod AccessLaws
pub mod Lengths
pub mod SmallLaws
pub mod Examples
pub mod Theorems
