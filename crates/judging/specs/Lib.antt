pub mod Heads
pub mod Orders
pub mod Objects
