pub mod Elements
pub mod Members
pub mod Groups
pub mod Verdicts
