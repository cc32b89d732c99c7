pub mod Cases
pub mod Laying
pub mod Sofar
