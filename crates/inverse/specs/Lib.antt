pub mod Encoding
pub mod Inverse
pub mod Inverts
pub mod RoundTrip
pub mod Fitting
