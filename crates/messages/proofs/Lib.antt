mod Appending
pub mod CallLaws
mod LineLaws
mod PieceLaws
pub mod Points
