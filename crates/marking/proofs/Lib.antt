pub mod Theorems
pub mod TracedLines
pub mod MarkedLaws
pub mod MarkedExamples
