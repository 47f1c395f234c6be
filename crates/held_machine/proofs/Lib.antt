pub mod WrittenLaws
pub mod MemoryAfter
pub mod ObeyLaws
pub mod SteppingLaws
