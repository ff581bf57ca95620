pub mod Lists
pub mod Encoding
pub mod Reading
pub mod Commands
pub mod Inverts
pub mod RoundTrip
pub mod Fitting
