pub mod Accepts
pub mod RecordRows
pub mod Firsts
