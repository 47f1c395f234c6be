pub mod MemoryLaws
pub mod RangeLaws
pub mod Examples
