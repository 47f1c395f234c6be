pub mod Station
pub mod Projection
pub mod StationRefusals
pub mod StationCommand
pub mod StationSetUp
pub mod StationHistory
