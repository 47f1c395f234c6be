pub mod CommandLaws
pub mod TurnLaws
pub mod StartLaws
