pub mod TurnLaws
pub mod RecordLaws
pub mod SetUpLaws
pub mod StartLaws
pub mod StarterLaws
pub mod RunLaws
