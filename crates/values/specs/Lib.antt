pub mod Due
pub mod Answers
