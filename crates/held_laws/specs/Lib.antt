pub mod Reached
pub mod BufferPlaces
