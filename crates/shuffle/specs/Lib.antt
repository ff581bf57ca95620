pub mod Transposed
pub mod Shuffle
pub mod Places
pub mod RoundTrip
pub mod Fitting
