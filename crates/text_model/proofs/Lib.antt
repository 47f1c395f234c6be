pub mod ReachedLaws
pub mod FarLaws
