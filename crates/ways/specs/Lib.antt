pub mod Dimensions
pub mod Members
pub mod Needs
