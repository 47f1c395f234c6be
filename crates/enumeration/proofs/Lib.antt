pub mod ScheduleFacts
pub mod Theorems
pub mod TurnLaws
pub mod LoopLaws
pub mod ReplyLaws
pub mod ReplyTheorems
pub mod CountLaws
pub mod RowExamples
