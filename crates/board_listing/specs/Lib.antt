pub mod BoardListing
pub mod ListedRun
