pub mod RangeFits
pub mod ListLaws
pub mod NearRowLaws
pub mod WholeLaws
pub mod NearLaws
