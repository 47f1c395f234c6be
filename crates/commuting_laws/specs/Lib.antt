pub mod Parts
pub mod StationDoings
pub mod Commuting
pub mod OnTheBench
