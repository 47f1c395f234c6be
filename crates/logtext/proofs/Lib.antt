pub mod ReadingExamples
pub mod ReadingLaws
pub mod PlaceLaws
pub mod PlaceExamples
