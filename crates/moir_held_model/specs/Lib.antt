pub mod Layout
pub mod Memory
pub mod Told
pub mod Ranges
pub mod HeldCommand
