pub mod TextRan
pub mod RunState
pub mod Turned
