pub mod Modulo
pub mod Rotation
pub mod Inverse
pub mod Wrapping
