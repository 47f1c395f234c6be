pub mod Serving
pub mod Sorting
pub mod Insertion
pub mod Moments
pub mod RefusalFacts
