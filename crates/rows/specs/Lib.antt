pub mod Row
pub mod Overlay
pub mod Clearing
