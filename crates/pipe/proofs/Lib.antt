pub mod Backward
pub mod Reversible
pub mod InBytes
pub mod Call
pub mod RoundTrip
pub mod Messages
pub mod Fitting
