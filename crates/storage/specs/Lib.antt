pub mod Places
pub mod Addresses
pub mod Formulas
pub mod Regions
pub mod Verdicts
