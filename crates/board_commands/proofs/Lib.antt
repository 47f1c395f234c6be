pub mod Examples
pub mod ReplyLaws
pub mod CommandLaws
pub mod RunLaws
pub mod FileRows
pub mod StoredRun
pub mod Theorems
