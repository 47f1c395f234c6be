pub mod BenchLogs
pub mod CallFacts
pub mod Promises
