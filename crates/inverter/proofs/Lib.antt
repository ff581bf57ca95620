pub mod Inverting
pub mod Called
