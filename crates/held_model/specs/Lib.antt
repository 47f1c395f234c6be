pub mod Layout
pub mod Memory
pub mod Told
pub mod Near
pub mod HeldCommand
