pub mod Ordered
pub mod StationCommandRows
