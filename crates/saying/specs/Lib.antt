pub mod Told
pub mod Within
