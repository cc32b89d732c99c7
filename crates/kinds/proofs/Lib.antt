pub mod Cases
pub mod Placing
pub mod Sofar
