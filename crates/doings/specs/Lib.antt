pub mod Items
pub mod Own
pub mod Doings
pub mod Depends
