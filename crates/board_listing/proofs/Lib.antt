pub mod RecordLaws
pub mod LoopLaws
pub mod LineLaws
pub mod ListedLaws
pub mod Examples
