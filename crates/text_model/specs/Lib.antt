pub mod TextRun
pub mod StopPlaces
pub mod Reached
