pub mod RowOrder
pub mod RefusalNumbers
