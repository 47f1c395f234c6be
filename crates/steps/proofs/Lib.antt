pub mod TakenLaws
pub mod LayoutLaws
