pub mod Owed
pub mod Stages
