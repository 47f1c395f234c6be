pub mod Accesses
pub mod AccessOn
pub mod TraceLines
pub mod Truth
