pub mod LinkLaws
pub mod HalfLaws
pub mod Schedules
pub mod Runs
pub mod TornReadings
pub mod RowOrder
pub mod HalfMoves
pub mod Views
