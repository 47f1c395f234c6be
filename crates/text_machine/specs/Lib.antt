pub mod Finished
pub mod Carried
