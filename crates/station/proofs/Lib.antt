pub mod Schedules
pub mod RowOrder
pub mod Runs
