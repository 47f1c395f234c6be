pub mod BoardRun
pub mod Promises
pub mod ByValue
