pub mod TurnTold
