pub mod LeafWalks
pub mod Search
pub mod Turns
