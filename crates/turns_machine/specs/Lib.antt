pub mod TurnDecision
