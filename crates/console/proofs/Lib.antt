mod Reading
pub mod Shown
