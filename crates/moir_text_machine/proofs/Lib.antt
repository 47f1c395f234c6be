pub mod EntryLaws
pub mod TurnLaws
pub mod SetUpLaws
