pub mod All
pub mod Shape
