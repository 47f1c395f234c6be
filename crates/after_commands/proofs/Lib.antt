pub mod BufferRuns
pub mod StayRuns
