pub mod Compares
pub mod Schedules
pub mod Runs
pub mod SecondRead
pub mod Limits
pub mod Histories
