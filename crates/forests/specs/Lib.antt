pub mod Formed
pub mod Held
pub mod Settled
