pub mod Transposed
pub mod Records
pub mod Widths
pub mod RoundTrip
pub mod Places
pub mod Fitting
