pub mod Operation
pub mod Fitting
