pub mod WordLaws
pub mod LayoutLaws
pub mod RunLaws
