pub mod Answers
pub mod CallKinds
pub mod Object
pub mod History
pub mod Linearizable
pub mod Rows
pub mod Refusals
