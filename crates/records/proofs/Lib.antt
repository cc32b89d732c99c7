pub mod FieldTurns
pub mod Moves
pub mod Picked
pub mod TableSlots
pub mod Answered
