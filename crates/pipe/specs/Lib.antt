pub mod Backward
pub mod Reversible
pub mod Call
pub mod RoundTrip
pub mod Fitting
