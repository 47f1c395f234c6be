pub mod RunState
pub mod Decision
pub mod Turned
