pub mod Answers
pub mod Editions
