pub mod Capped
pub mod Numbers
