pub mod Invertible
pub mod RoundTrip
