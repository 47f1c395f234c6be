pub mod NextAlone
pub mod TurnDecisionLaws
