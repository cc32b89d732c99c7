pub mod Search
pub mod Walks
