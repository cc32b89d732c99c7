pub mod Cleared
pub mod Overlay
pub mod Clearing
pub mod Chunks
