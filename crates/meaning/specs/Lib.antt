pub mod Rewriting
pub mod Standing
