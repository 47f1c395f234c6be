pub mod WritingLaws
pub mod DecimalLaws
pub mod DivisionLaws
pub mod FilledLaws
pub mod LineLaws
pub mod Lengths
pub mod Theorems
pub mod Examples
