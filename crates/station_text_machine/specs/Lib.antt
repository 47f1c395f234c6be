pub mod StationText
pub mod TextPromises
pub mod TextByValue
