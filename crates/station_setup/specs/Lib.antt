pub mod StationSetUpByValue
pub mod SetUpGathered
