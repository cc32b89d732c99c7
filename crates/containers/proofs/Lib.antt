pub mod Closing
pub mod Loops
