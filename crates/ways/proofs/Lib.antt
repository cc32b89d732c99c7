pub mod Letters
pub mod Along
pub mod Extents
pub mod Fields
pub mod Exits
