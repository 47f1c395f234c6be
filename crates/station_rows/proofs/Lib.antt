pub mod NumberLaws
pub mod StationRowLaws
