pub mod Distance
pub mod Metric
pub mod Counts
pub mod Refusals
pub mod Counted
pub mod Fitting
