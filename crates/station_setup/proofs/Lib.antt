pub mod StationSetUpLaws
pub mod StoredSetUp
pub mod FilledLaws
