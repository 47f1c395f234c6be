pub mod BlockLaws
pub mod TabLaws
pub mod MemoryLaws
