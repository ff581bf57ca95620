pub mod Answer
pub mod Number
pub mod Refuse
pub mod Injective
