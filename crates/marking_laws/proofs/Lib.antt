pub mod LineEnds
pub mod EntryLines
pub mod Theorems
