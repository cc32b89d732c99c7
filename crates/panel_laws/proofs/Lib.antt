pub mod Picks
pub mod Looked
pub mod Addressed
