pub mod Finishing
pub mod TrueLines
