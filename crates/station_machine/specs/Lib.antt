pub mod StationDecision
