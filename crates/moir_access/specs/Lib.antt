pub mod Items
pub mod Accesses
pub mod TraceParts
pub mod Truth
