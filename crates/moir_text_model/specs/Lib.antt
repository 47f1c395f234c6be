pub mod TextRun
pub mod TextOrder
pub mod TrueLines
