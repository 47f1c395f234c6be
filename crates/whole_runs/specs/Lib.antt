pub mod Carrying
pub mod Reading
pub mod Whole
