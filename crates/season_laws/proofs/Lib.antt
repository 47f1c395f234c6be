pub mod CommandLines
pub mod RunListing
pub mod TextSmall
pub mod Theorems
