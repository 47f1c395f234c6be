pub mod After
pub mod Bound
pub mod Linearizable
pub mod OwnDoing
pub mod ShortRuns
