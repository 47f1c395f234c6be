pub mod BracketLaws
pub mod Examples
pub mod PositionLaws
