pub mod StationObeyLaws
pub mod StationDecisionLaws
pub mod OrderLaws
