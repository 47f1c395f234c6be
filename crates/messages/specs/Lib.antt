pub mod OpenCalls
pub mod OpenLines
pub mod Pieces
pub mod Shown
