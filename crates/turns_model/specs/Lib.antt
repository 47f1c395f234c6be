pub mod TurnPromises
pub mod TurnReplies
pub mod Turns
