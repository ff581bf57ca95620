pub mod Balance
pub mod Places
