pub mod StoreTurns
pub mod Kept
pub mod Fresh
pub mod TurnNotes
