pub mod Tables
pub mod Product
pub mod Division
pub mod Vector
pub mod Barred
pub mod Square
pub mod Theorem
