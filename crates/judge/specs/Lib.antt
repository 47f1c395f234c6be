pub mod CallText
pub mod LogCalls
pub mod LogLines
