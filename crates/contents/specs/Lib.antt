pub mod Items
pub mod Tables
pub mod Answers
