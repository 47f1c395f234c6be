pub mod Turns
pub mod Offers
pub mod BenchCalls
pub mod Rows
pub mod Answers
pub mod Yes
pub mod Sound
pub mod Theorems
