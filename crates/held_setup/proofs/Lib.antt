pub mod RunLaws
pub mod RecordLaws
pub mod SettingLaws
pub mod SetUpLaws
