pub mod TraceParts
