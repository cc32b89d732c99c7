pub mod Digits
pub mod Stands
