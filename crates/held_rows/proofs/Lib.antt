pub mod FitLaws
pub mod ListLaws
pub mod NearRowLaws
pub mod NearLaws
pub mod WholeLaws
