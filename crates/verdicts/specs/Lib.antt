pub mod Log
pub mod Verdicts
pub mod Reasons
pub mod ToldAnswers
