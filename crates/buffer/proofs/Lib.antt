pub mod Outcome
pub mod Solutions
