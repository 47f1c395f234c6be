pub mod Needed
pub mod RefusalOrder
pub mod ReasonExamples
pub mod ReasonLaws
pub mod VerdictLaws
pub mod WideLogs
