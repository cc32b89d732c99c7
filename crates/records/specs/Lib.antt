pub mod Fields
pub mod Counts
pub mod Slots
