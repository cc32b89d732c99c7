pub mod Least
pub mod Walks
