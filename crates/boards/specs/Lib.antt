pub mod Files
pub mod Merging
pub mod Promises
pub mod Places
pub mod Merged
