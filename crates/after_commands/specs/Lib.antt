pub mod After
pub mod OwnDoing
pub mod Buffers
pub mod Changes
pub mod WordsStay
