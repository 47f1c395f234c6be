pub mod Tested
pub mod Pascal
