pub mod Leaves
pub mod Runs
