pub mod Bits
pub mod Chunks
pub mod Search
