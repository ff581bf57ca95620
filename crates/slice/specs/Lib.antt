pub mod SliceAnswer
pub mod Slice
pub mod Number
pub mod Injective
pub mod Exact
pub mod Chain
