pub mod NearBench
pub mod MemoryAfter
pub mod ObeyLaws
pub mod SteppingLaws
pub mod SettingLaws
