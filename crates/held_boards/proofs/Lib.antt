pub mod GivenLaws
pub mod RunLaws
