pub mod Forms
pub mod Rewrites
