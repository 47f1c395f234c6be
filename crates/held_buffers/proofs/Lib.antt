pub mod HolderLaws
pub mod ToldLaws
