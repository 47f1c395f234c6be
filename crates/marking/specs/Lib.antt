pub mod Marks
pub mod Reading
pub mod Marked
pub mod CopiedLines
