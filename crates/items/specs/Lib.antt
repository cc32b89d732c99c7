pub mod Items
pub mod Headers
