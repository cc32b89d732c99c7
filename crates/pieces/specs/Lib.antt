pub mod Puts
pub mod Shapes
