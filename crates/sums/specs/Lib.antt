pub mod Season
pub mod Fractions
pub mod SeasonTable
