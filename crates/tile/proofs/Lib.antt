pub mod Copy
pub mod Interleaved
