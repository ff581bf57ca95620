pub mod Batch
pub mod Messages
pub mod Refusals
pub mod Written
pub mod Calls
pub mod Fitting
